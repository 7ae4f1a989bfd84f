-- Tests of sameness, and what a merge of three takes when the sides are exchanged.
use Rattle.std.proofs.Common.{◌≡◌, ℕ, Bool, true, false, cond, eqb, ◌&&◌, List, Option, Some, None, refl, sym, ap, ◌∙◌}
use Rattle.std.specs.Bool.{Decides}
use Rattle.std.specs.Option.{option_map_or}
use Rattle.std.proofs.lemmas.Bool.Decides.{same_from_decides, Decides-eqb}
use Rattle.std.proofs.lemmas.Slice.Eq.{bytes_eq-Decides}
use Rattle.seq_base.specs.declared.map.Entry.{Entry}
use Rattle.seq_base.specs.declared.mode.Mode.{Mode}
use Rattle.seq_base.specs.declared.mode.Mode.TheVariants.{File, Exec, Link, Gitlink, Folder}
use Rattle.seq_base.specs.Modes.{mode_number}
use Rattle.seq_base.specs.PathMaps.{same_entry}
use Rattle.tree_merge.specs.declared.rules.Choice.TheVariants.{Take, Conflict}
use Rattle.tree_merge.specs.Choices.{agreed, is_file_mode, same_id, same_mode}
use Rattle.tree_merge.specs.Choosing.{choice, changed, by_parts, may_be_file, merged_files, merged_id, merged_mode}

-- the mode with a number
abbrev mode_at : ℕ → Mode
mode_at n = cond (eqb n 33188) File (cond (eqb n 33261) Exec (cond (eqb n 40960) Link (cond (eqb n 57344) Gitlink Folder)))

mode_back : (a : Mode) → mode_at (mode_number a) ≡ a
mode_back File = refl
mode_back Exec = refl
mode_back Link = refl
mode_back Gitlink = refl
mode_back Folder = refl

pub mode_decides : (a b : Mode) → Decides (same_mode a b) (a ≡ b)
mode_decides a b =
    (λ e. sym (mode_back a) ∙ ap mode_at ((Decides-eqb (mode_number a) (mode_number b)).0 e) ∙ mode_back b, λ e. (Decides-eqb (mode_number a) (mode_number b)).1 (ap mode_number e))

both : (a b : Bool) → a && b ≡ true → (a ≡ true) × (b ≡ true)
both true true e = (refl, refl)
both true false e = absurd cc
both false b e = absurd cc

same_parts : (a b : Entry) → a.mode ≡ b.mode → a.id ≡ b.id → a ≡ b
same_parts a b m i = λ k. record { mode = m k; id = i k }

pub entry_decides : (a b : Option Entry) → Decides (same_entry a b) (a ≡ b)
entry_decides None None = (λ _. refl, λ _. refl)
entry_decides None (Some b) = (λ e. absurd cc, λ e. absurd cc)
entry_decides (Some a) None = (λ e. absurd cc, λ e. absurd cc)
entry_decides (Some a) (Some b) =
    (λ e. let p = both (same_mode a.mode b.mode) (same_id a.id b.id) e in ap Some (same_parts a b ((mode_decides a.mode b.mode).0 p.0) ((bytes_eq-Decides a.id b.id).0 p.1)), back)
  where
    ands : (x y : Bool) → x ≡ true → y ≡ true → x && y ≡ true
    ands true y e f = f
    ands false y e f = absurd cc

    back : Some a ≡ Some b → same_mode a.mode b.mode && same_id a.id b.id ≡ true
    back e =
        let k : a ≡ b = cc in ands _ _ ((mode_decides a.mode b.mode).1 (ap (λ (x : Entry). x.mode) k)) ((bytes_eq-Decides a.id b.id).1 (ap (λ (x : Entry). x.id) k))

module _ {X : Type 0} (same : X → X → Bool) (decides : (x y : X) → Decides (same x y) (x ≡ y)) where
  same_swap : (x y : X) → same x y ≡ same y x
  same_swap x y = same_from_decides {P = x ≡ y} (same x y) (same y x) (decides x y) (λ e. sym ((decides y x).0 e), λ e. (decides y x).1 (sym e))

  -- what is taken stays where the sides are exchanged
  pub agreed_swap : (b o t : X) → agreed same b o t ≡ agreed same b t o
  agreed_swap b o t = at (same o t) refl (same b o) refl (same b t) refl
    where
      at : (p : Bool) → same o t ≡ p → (q : Bool) → same b o ≡ q → (r : Bool) → same b t ≡ r
          → cond p (Some o) (cond q (Some t) (cond r (Some o) None)) ≡ agreed same b t o
      at true e q f r g = rw (sym (same_swap o t) ∙ e) (ap Some ((decides o t).0 e))
      at false e true f true g = absurd (let k : same o t ≡ true = (decides o t).1 (sym ((decides b o).0 f) ∙ (decides b t).0 g) in cc)
      at false e true f false g = rw (sym (same_swap o t) ∙ e, g, f) refl
      at false e false f true g = rw (sym (same_swap o t) ∙ e, g) refl
      at false e false f false g = rw (sym (same_swap o t) ∙ e, g, f) refl

id_swap : (b : Option Entry) (o t : Entry) (id : List ℕ) → merged_id b o t ≡ Some id → merged_id b t o ≡ Some id
id_swap None o t id e = at (same_id o.id t.id) refl e
  where
    at : (p : Bool) → same_id o.id t.id ≡ p → cond p (Some o.id) None ≡ Some id → cond (same_id t.id o.id) (Some t.id) None ≡ Some id
    at true is e = rw (sym (same_swap same_id bytes_eq-Decides o.id t.id) ∙ is) (ap Some (sym ((bytes_eq-Decides o.id t.id).0 is)) ∙ e)
    at false is e = absurd cc
id_swap (Some b) o t id e = sym (agreed_swap same_id bytes_eq-Decides b.id o.id t.id) ∙ e

mode_swap : (b : Option Entry) (o t : Entry) (mode : Mode) → merged_mode b o t ≡ Some mode → merged_mode b t o ≡ Some mode
mode_swap None o t mode e = at (same_mode o.mode t.mode) refl e
  where
    at : (p : Bool) → same_mode o.mode t.mode ≡ p → cond p (Some o.mode) None ≡ Some mode
        → cond (same_mode t.mode o.mode) (Some t.mode) None ≡ Some mode
    at true is e = rw (sym (same_swap same_mode mode_decides o.mode t.mode) ∙ is) (ap Some (sym ((mode_decides o.mode t.mode).0 is)) ∙ e)
    at false is e = absurd cc
mode_swap (Some b) o t mode e = sym (agreed_swap same_mode mode_decides b.mode o.mode t.mode) ∙ e

files_swap : (b : Option Entry) (o t : Entry) (e : Option Entry) → merged_files b o t ≡ Take e → merged_files b t o ≡ Take e
files_swap b o t e = at (merged_id b o t) refl (merged_mode b o t) refl
  where
    at : (i : Option (List ℕ)) → merged_id b o t ≡ i → (m : Option Mode) → merged_mode b o t ≡ m → by_parts o.mode i m ≡ Take e
        → merged_files b t o ≡ Take e
    at (Some id) i (Some mode) m is = rw (id_swap b o t id i, mode_swap b o t mode m) is
    at (Some id) i None m is = absurd cc
    at None i (Some mode) m is = absurd cc
    at None i None m is = absurd cc

and_swap : (a b c : Bool) → a && (b && c) ≡ a && (c && b)
and_swap a true true = refl
and_swap a true false = refl
and_swap a false true = refl
and_swap a false false = refl

changed_swap : (b o t e : Option Entry) → changed b o t ≡ Take e → changed b t o ≡ Take e
changed_swap b None t e is = absurd cc
changed_swap b (Some o) None e is = absurd cc
changed_swap b (Some o) (Some t) e is = at (may_be_file b && (is_file_mode o.mode && is_file_mode t.mode)) refl is
  where
    at : (p : Bool) → may_be_file b && (is_file_mode o.mode && is_file_mode t.mode) ≡ p → cond p (merged_files b o t) (Conflict (Some o)) ≡ Take e
        → changed b (Some t) (Some o) ≡ Take e
    at true p is = rw (sym (and_swap (may_be_file b) (is_file_mode o.mode) (is_file_mode t.mode)) ∙ p) (files_swap b o t e is)
    at false p is = absurd cc

-- an entry that is taken is taken with the sides exchanged
pub choice_swap : (b o t e : Option Entry) → choice b o t ≡ Take e → choice b t o ≡ Take e
choice_swap b o t e is = at (agreed same_entry b o t) refl is
  where
    at : (a : Option (Option Entry)) → agreed same_entry b o t ≡ a → option_map_or Take a (changed b o t) ≡ Take e → choice b t o ≡ Take e
    at (Some x) p is = rw (sym (agreed_swap same_entry entry_decides b o t) ∙ p) is
    at None p is = rw (sym (agreed_swap same_entry entry_decides b o t) ∙ p) (changed_swap b o t e is)

agreed_same : {X : Type 0} (same : X → X → Bool) (decides : (x y : X) → Decides (same x y) (x ≡ y)) (b t : X) → agreed same b b t ≡ Some t
agreed_same same decides b t = at (same b t) refl
  where
    at : (p : Bool) → same b t ≡ p → cond p (Some b) (cond (same b b) (Some t) (cond p (Some b) None)) ≡ Some t
    at true e = ap Some ((decides b t).0 e)
    at false e = rw ((decides b b).1 refl) refl

-- where ours is the base, theirs is taken
pub choice_theirs : (b t : Option Entry) → choice b b t ≡ Take t
choice_theirs b t = rw (agreed_same same_entry entry_decides b t) refl
