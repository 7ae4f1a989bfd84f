-- An index stays one in order as a file is added to it or removed.
use Rattle.std.proofs.Common.{◌≡◌, ◌==◌, Bool, true, false, not, ◌&&◌, ◌||◌, cond, List, [], ◌∷◌, Option, Some, None, refl, sym, subst, arith}
use Rattle.std.specs.Prelude.{filter, option_map, unwrap_or}
use Rattle.std.specs.List.{AllByRecursion, find}
use Rattle.std.specs.Str.{bytes_eq}
use Rattle.seq_base.specs.Words.{Id, Path}
use Rattle.seq_base.specs.World.{is_below}
use Rattle.seq_base.specs.declared.map.Entry.{Entry}
use Rattle.seq_base.specs.declared.mode.Mode.TheVariants.{File, Folder}
use Rattle.index_file.specs.Entries.{IsInOrder, IsStaged, holds, may_precede}
use Rattle.index_file.specs.declared.entry.IndexEntry.{IndexEntry}
use Rattle.stage_index.specs.Staged.{others_of, stages_at}
use Rattle.stage_index.proofs.OrderedStages.{set_in_order}
use Rattle.stage_index.proofs.Stagings.{others_kept, stages_set}
use Rattle.seq_plumb.specs.Indexing.{clashes, is_ours, mode_at, with_file, with_merged, without_clashes}

-- ---- entries that are kept

kept : (P : IndexEntry → Type 0) (test : IndexEntry → Bool) (es : List IndexEntry) → AllByRecursion P es → AllByRecursion P (filter test es)
kept P test [] all = tt
kept P test (e ∷ es) all = at (test e) (kept P test es all.1)
  where
    at : (t : Bool) → AllByRecursion P (filter test es) → AllByRecursion P (cond t (e ∷ filter test es) (filter test es))
    at true later = (all.0, later)
    at false later = later

kept_order : (test : IndexEntry → Bool) (es : List IndexEntry) → IsInOrder es → IsInOrder (filter test es)
kept_order test [] order = tt
kept_order test (e ∷ es) order = at (test e) (kept_order test es order.1)
  where
    at : (t : Bool) → IsInOrder (filter test es) → IsInOrder (cond t (e ∷ filter test es) (filter test es))
    at true later = (kept (λ d. may_precede e d ≡ true) test es order.0, later)
    at false later = later

-- what holds of a path's entries and of all others holds of all
parted : (P : IndexEntry → Type 0) (path : Path) (es : List IndexEntry) → AllByRecursion P (stages_at es path) → AllByRecursion P (others_of es path)
    → AllByRecursion P es
parted P path [] here others = tt
parted P path (e ∷ es) here others = at (bytes_eq e.path path) (parted P path es) here others
  where
    at : (t : Bool) → (AllByRecursion P (stages_at es path) → AllByRecursion P (others_of es path) → AllByRecursion P es)
        → AllByRecursion P (cond t (e ∷ stages_at es path) (stages_at es path)) → AllByRecursion P (cond (not t) (e ∷ others_of es path) (others_of es path)) → AllByRecursion P (e ∷ es)
    at true later here others = (here.0, later here.1 others)
    at false later here others = (others.0, later here others.1)

-- ---- entries that clash

module _ (path : Path) (entry : Entry) where
  abbrev new : IndexEntry
  new = record { path = path; stage = 0; mode = entry.mode; id = entry.id }

  abbrev IsApart : IndexEntry → Type 0
  IsApart e = AllByRecursion (λ n. holds e n || holds n e ≡ false) (new ∷ [])

  apart : (e : IndexEntry) → clashes path e ≡ false → holds e new || holds new e ≡ false
  apart e = at (e.stage == 0)
    where
      at : (t : Bool) → (t && (is_below e.path path || is_below path e.path)) ≡ false
          → ((t && is_below e.path path) || (t && is_below path e.path)) ≡ false
      at true is = is
      at false is = refl

  all_apart : (es : List IndexEntry) → AllByRecursion IsApart (without_clashes es path)
  all_apart [] = tt
  all_apart (e ∷ es) = at (clashes path e) refl (all_apart es)
    where
      at : (t : Bool) → clashes path e ≡ t → AllByRecursion IsApart (without_clashes es path)
          → AllByRecursion IsApart (cond (not t) (e ∷ without_clashes es path) (without_clashes es path))
      at true is later = later
      at false is later = ((apart e is, tt), later)

  merged_in_order : (es : List IndexEntry) → IsInOrder es → IsInOrder (with_merged es path entry)
  merged_in_order es order =
      set_in_order (without_clashes es path) path (Some entry ∷ None ∷ None ∷ None ∷ []) (kept_order (λ e. not (clashes path e)) es order) (tt, tt)
      (kept IsApart (λ e. not (bytes_eq e.path path)) (without_clashes es path) (all_apart es))

  abbrev stages : List (Option Entry)
  stages = Some entry ∷ None ∷ None ∷ None ∷ []

  merged_staged : (es : List IndexEntry) → (entry.mode ≡ Folder → ⊥) → AllByRecursion IsStaged es
      → AllByRecursion IsStaged (with_merged es path entry)
  merged_staged es mode all =
      let rest = without_clashes es path in
      parted IsStaged path (with_merged es path entry)
      (subst (AllByRecursion IsStaged) (sym (stages_set rest path stages)) (record { stage = omega arith; mode = mode }, tt))
      (subst (AllByRecursion IsStaged) (sym (others_kept rest path stages)) (kept IsStaged (λ e. not (bytes_eq e.path path)) rest (kept IsStaged (λ e. not (clashes path e)) es all)))

-- ---- the mode that a path has

mode_kept : (path : Path) (es : List IndexEntry) → AllByRecursion IsStaged es → mode_at es path ≡ Folder → ⊥
mode_kept path [] all is = cc
mode_kept path (e ∷ es) all is = at (is_ours path e) (mode_kept path es all.1) is
  where
    at : (t : Bool) → (mode_at es path ≡ Folder → ⊥)
        → unwrap_or (option_map (λ (d : IndexEntry). d.mode) (cond t (Some e) (find (is_ours path) es))) File ≡ Folder → ⊥
    at true later is = all.0.mode is
    at false later is = later is

-- ---- both

pub file_in_order : (index : List IndexEntry) (path : Path) (blob : Option Id) → IsInOrder index → IsInOrder (with_file index path blob)
file_in_order index path None order = kept_order (λ e. not (bytes_eq e.path path)) index order
file_in_order index path (Some id) order = merged_in_order path (record { mode = mode_at index path; id = id }) index order

pub file_staged : (index : List IndexEntry) (path : Path) (blob : Option Id) → AllByRecursion IsStaged index
    → AllByRecursion IsStaged (with_file index path blob)
file_staged index path None all = kept IsStaged (λ e. not (bytes_eq e.path path)) index all
file_staged index path (Some id) all = merged_staged path (record { mode = mode_at index path; id = id }) index (mode_kept path index all) all

pub ruleset file_laws = (file_in_order, file_staged)

-- ---- paths that are removed

pub others_in_order : (index : List IndexEntry) (path : Path) → IsInOrder index → IsInOrder (others_of index path)
others_in_order index path order = kept_order (λ e. not (bytes_eq e.path path)) index order

pub others_staged : (index : List IndexEntry) (path : Path) → AllByRecursion IsStaged index → AllByRecursion IsStaged (others_of index path)
others_staged index path all = kept IsStaged (λ e. not (bytes_eq e.path path)) index all

pub ruleset removal_laws = (others_in_order, others_staged)
