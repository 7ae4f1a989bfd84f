-- The result of a merge of maps is a map: no entry that is taken is a folder.
use Rattle.std.proofs.Common.{◌≡◌, ℕ, Bool, true, false, cond, ◌++◌, ◌&&◌, List, [], ◌∷◌, Option, Some, None, refl, subst}
use Rattle.std.specs.Option.{option_map_or}
use Rattle.std.specs.Str.{bytes_eq}
use Rattle.seq_base.specs.declared.map.Entry.{Entry}
use Rattle.seq_base.specs.declared.mode.Mode.{Mode}
use Rattle.seq_base.specs.declared.mode.Mode.TheVariants.{Folder}
use Rattle.seq_base.specs.PathMaps.{HoldsFiles, IsPathMap, entry_at, same_entry}
use Rattle.tree_merge.specs.declared.rules.Choice.{Choice}
use Rattle.tree_merge.specs.declared.rules.Choice.TheVariants.{Take, Content, Conflict}
use Rattle.tree_merge.specs.Choices.{agreed, is_file_mode, same_mode}
use Rattle.tree_merge.specs.Choosing.{by_parts, changed, choice, may_be_file, merged_files, merged_id, merged_mode}
use Rattle.tree_merge.specs.Plans.{Entries, paths_of, plan_of}
use Rattle.tree_merge.specs.Results.{conflict_in, result_of, taken, taken_at}
use Rattle.tree_merge.proofs.Apart.{result_apart}
use Rattle.tree_merge.proofs.Taking.{all_taken, no_clash, result_ascending, with_taken}

abbrev pub IsFile : Mode → Type 0
IsFile m = m ≡ Folder → ⊥

abbrev pub MayBeFile : Option Entry → Type 0
MayBeFile v = (e : Entry) → v ≡ Some e → IsFile e.mode

pub file_at : (es : Entries) (p : List ℕ) → HoldsFiles es → MayBeFile (entry_at es p)
file_at [] p h e is = absurd cc
file_at (d ∷ es) p h e is = at (file_at es p h.1 e) (bytes_eq d.0 p) is
  where
    at : (entry_at es p ≡ Some e → IsFile e.mode) → (u : Bool) → cond u (Some d.1) (entry_at es p) ≡ Some e → IsFile e.mode
    at rest true is = let k : d.1 ≡ e = cc in subst (λ (x : Entry). IsFile x.mode) k h.0
    at rest false is = rest is

-- what is agreed on, one side has
agreed_side : {X : Type 0} (P : X → Type 0) (same : X → X → Bool) (b o t x : X) → P o → P t → agreed same b o t ≡ Some x → P x
agreed_side P same b o t x po pt is = at (same o t) (same b o) (same b t) is
  where
    at : (u v w : Bool) → cond u (Some o) (cond v (Some t) (cond w (Some o) None)) ≡ Some x → P x
    at true v w is = let k : o ≡ x = cc in subst P k po
    at false true w is = let k : t ≡ x = cc in subst P k pt
    at false false true is = let k : o ≡ x = cc in subst P k po
    at false false false is = absurd cc

mode_side : (b : Option Entry) (o t : Entry) (m : Mode) → IsFile o.mode → IsFile t.mode → merged_mode b o t ≡ Some m → IsFile m
mode_side None o t m fo ft is = at (same_mode o.mode t.mode) is
  where
    at : (u : Bool) → cond u (Some o.mode) None ≡ Some m → IsFile m
    at true is = let k : o.mode ≡ m = cc in subst IsFile k fo
    at false is = absurd cc
mode_side (Some b) o t m fo ft is = agreed_side IsFile same_mode b.mode o.mode t.mode m fo ft is

files_file : (b : Option Entry) (o t : Entry) → IsFile o.mode → IsFile t.mode → MayBeFile (taken (merged_files b o t))
files_file b o t fo ft e = at (merged_id b o t) (merged_mode b o t) refl
  where
    at : (i : Option (List ℕ)) (m : Option Mode) → merged_mode b o t ≡ m → taken (by_parts o.mode i m) ≡ Some e → IsFile e.mode
    at (Some id) (Some mode) here is = let k : mode ≡ e.mode = cc in subst IsFile k (mode_side b o t mode fo ft here)
    at (Some id) None here is = absurd cc
    at None (Some mode) here is = absurd cc
    at None None here is = absurd cc

changed_file : (b o t : Option Entry) → MayBeFile o → MayBeFile t → MayBeFile (taken (changed b o t))
changed_file b None t fo ft e is = absurd cc
changed_file b (Some o) None fo ft e is = absurd cc
changed_file b (Some o) (Some t) fo ft e is = at (may_be_file b && (is_file_mode o.mode && is_file_mode t.mode)) is
  where
    at : (u : Bool) → taken (cond u (merged_files b o t) (Conflict (Some o))) ≡ Some e → IsFile e.mode
    at true is = files_file b o t (fo o refl) (ft t refl) e is
    at false is = absurd cc

taken_file : (b o t : Option Entry) → MayBeFile o → MayBeFile t → MayBeFile (taken (choice b o t))
taken_file b o t fo ft = at (agreed same_entry b o t) refl
  where
    at : (a : Option (Option Entry)) → agreed same_entry b o t ≡ a → MayBeFile (taken (option_map_or Take a (changed b o t)))
    at (Some x) is = agreed_side MayBeFile same_entry b o t x fo ft is
    at None is = changed_file b o t fo ft

all_files : (f : List ℕ → Option Entry) → ((p : List ℕ) → MayBeFile (f p)) → (ps : List (List ℕ)) → HoldsFiles (all_taken f ps)
all_files f h [] = tt
all_files f h (p ∷ ps) = at (f p) (h p) (all_files f h ps)
  where
    at : (v : Option Entry) → MayBeFile v → HoldsFiles (all_taken f ps) → HoldsFiles (with_taken p v (all_taken f ps))
    at None file rest = rest
    at (Some e) file rest = (file e refl, rest)

-- a merge of maps that does not conflict leaves a map
pub result_map : (b o t : Entries) → IsPathMap b → IsPathMap o → IsPathMap t → conflict_in (plan_of b o t) ≡ None → IsPathMap (result_of b o t)
result_map b o t base ours theirs calm = record {
  ascending = result_ascending b o t;
  apart = result_apart b o t base ours theirs (no_clash (plan_of b o t) calm);
  files =
      all_files (taken_at b o t) (λ p. taken_file (entry_at b p) (entry_at o p) (entry_at t p) (file_at o p ours.files) (file_at t p theirs.files)) (paths_of (b ++ o ++ t));
}

-- ---- the same of each choice

-- what is taken, or merged, is no folder
abbrev pub HasFile : Choice → Type 0
HasFile (Take entry) = MayBeFile entry
HasFile (Content mode clean) = IsFile mode
HasFile (Conflict file) = MayBeFile file

files_choice : (b : Option Entry) (o t : Entry) → IsFile o.mode → IsFile t.mode → HasFile (merged_files b o t)
files_choice b o t fo ft = at (merged_id b o t) (merged_mode b o t) refl
  where
    at : (i : Option (List ℕ)) (m : Option Mode) → merged_mode b o t ≡ m → HasFile (by_parts o.mode i m)
    at (Some id) (Some mode) here = λ e is. let k : mode ≡ e.mode = cc in subst IsFile k (mode_side b o t mode fo ft here)
    at (Some id) None here = λ e is. let k : o.mode ≡ e.mode = cc in subst IsFile k fo
    at None (Some mode) here = mode_side b o t mode fo ft here
    at None None here = fo

changed_choice : (b o t : Option Entry) → MayBeFile o → MayBeFile t → HasFile (changed b o t)
changed_choice b None t fo ft = ft
changed_choice b (Some o) None fo ft = fo
changed_choice b (Some o) (Some t) fo ft = at (may_be_file b && (is_file_mode o.mode && is_file_mode t.mode))
  where
    at : (u : Bool) → HasFile (cond u (merged_files b o t) (Conflict (Some o)))
    at true = files_choice b o t (fo o refl) (ft t refl)
    at false = fo

pub choice_file : (b o t : Option Entry) → MayBeFile o → MayBeFile t → HasFile (choice b o t)
choice_file b o t fo ft = at (agreed same_entry b o t) refl
  where
    at : (a : Option (Option Entry)) → agreed same_entry b o t ≡ a → HasFile (option_map_or Take a (changed b o t))
    at (Some x) is = agreed_side MayBeFile same_entry b o t x fo ft is
    at None is = changed_choice b o t fo ft
