-- Where no listed path conflicts, no path does: the others have three equal entries.
use Rattle.std.proofs.Common.{◌≡◌, ℕ, zero, suc, ◌<◌, Bool, true, false, not, ◌||◌, ◌&&◌, List, [], ◌∷◌, ◌++◌, length, get_or, Option, Some, None, is_some, refl, sym, ap, subst, ◌∙◌, arith}
use Rattle.std.proofs.Math.Seq.{take-length}
use Rattle.std.specs.Prelude.{map}
use Rattle.std.specs.List.{AllByRecursion, list_any}
use Rattle.seq_base.specs.declared.map.Entry.{Entry}
use Rattle.seq_base.specs.World.{is_below}
use Rattle.seq_base.specs.PathMaps.{Entries, clashes, entry_at, same_entry}
use Rattle.tree_merge.specs.declared.rules.Choice.{Choice}
use Rattle.tree_merge.specs.declared.rules.Choice.TheVariants.{Take, Content, Conflict}
use Rattle.tree_merge.specs.declared.plans.Planned.{Planned}
use Rattle.tree_merge.specs.Choosing.{choice}
use Rattle.tree_merge.specs.Plans.{all_rows, is_listed, is_present, is_under, listed, marked, paths_of, plan_of, row_at}
use Rattle.tree_merge.specs.Results.{conflict_in, does_conflict, is_taken, taken}
use Rattle.tree_merge.proofs.Order.{less_apart}
use Rattle.tree_merge.proofs.Sameness.{choice_theirs, entry_decides}
use Rattle.tree_merge.proofs.Apart.{AreMaps, all_listed, all_mapped, pair_apart}
use Rattle.tree_merge.proofs.Clashes.{any_none, folder_less}
use Rattle.tree_merge.proofs.Taking.{no_clash}

-- no row conflicts
none_conflicts : (rows : List Planned) → conflict_in rows ≡ None → AllByRecursion (λ row. does_conflict row ≡ false) rows
none_conflicts [] h = tt
none_conflicts (r ∷ rows) h = at (none_conflicts rows) r.clash refl (is_taken r.choice) refl
  where
    at : (conflict_in rows ≡ None → AllByRecursion (λ row. does_conflict row ≡ false) rows) → (x : Bool) → r.clash ≡ x → (y : Bool)
        → is_taken r.choice ≡ y
        → AllByRecursion (λ row. does_conflict row ≡ false) (r ∷ rows)
    at rest true e y g = let k : conflict_in (r ∷ rows) ≡ Some r.path = rw e refl in absurd cc
    at rest false e true g = let k : conflict_in (r ∷ rows) ≡ conflict_in rows = rw (e, g) refl in (rw (e, g) refl, rest (sym k ∙ h))
    at rest false e false g = let k : conflict_in (r ∷ rows) ≡ Some r.path = rw (e, g) refl in absurd cc

taken_of : (clash taken : Bool) → (clash || not taken) ≡ false → taken ≡ true
taken_of true taken e = absurd cc
taken_of false true e = refl
taken_of false false e = absurd cc

-- three equal entries are taken
unlisted_taken : (b o t : Option Entry) → not (same_entry b o && same_entry o t) ≡ false → is_taken (choice b o t) ≡ true
unlisted_taken b o t e = at (same_entry b o) refl (same_entry o t) refl e
  where
    at : (x : Bool) → same_entry b o ≡ x → (y : Bool) → same_entry o t ≡ y → not (x && y) ≡ false → is_taken (choice b o t) ≡ true
    at true x true y e = ap is_taken (ap (λ (v : Option Entry). choice v o t) ((entry_decides b o).0 x) ∙ choice_theirs o t)
    at true x false y e = absurd cc
    at false x y w e = absurd cc

taken_there : (c : Choice) → is_taken c ≡ true → is_present c ≡ true → is_some (taken c) ≡ true
taken_there (Take entry) is there = there
taken_there (Content mode clean) is there = absurd cc
taken_there (Conflict file) is there = absurd cc

split_and : (a b : Bool) → (a && b) ≡ true → (a ≡ true) × (b ≡ true)
split_and true true e = (refl, refl)
split_and true false e = absurd cc
split_and false b e = absurd cc

clash_none : (p q : List ℕ) → clashes p q ≡ false → is_below p q ≡ true → ⊥
clash_none p q none below = at (is_below p q) below none
  where
    at : (x : Bool) → x ≡ true → (x || is_below q p) ≡ false → ⊥
    at true below none = absurd cc
    at false below none = absurd cc

module _ (b o t : Entries) (maps : AreMaps b o t) (calm : conflict_in (plan_of b o t) ≡ None) where
  abbrev ps : List (List ℕ)
  ps = paths_of (b ++ o ++ t)

  -- an entry is taken at each path
  taken_each : (j : ℕ) (d : List ℕ) → j < length ps → is_taken (row_at b o t (get_or ps j d)).choice ≡ true
  taken_each j d within = at (is_listed (row_at b o t (get_or ps j d))) refl
    where
      none : AllByRecursion (λ r. does_conflict (marked (listed b o t) r) ≡ false) (listed b o t)
      none = all_mapped (λ r. does_conflict r ≡ false) (marked (listed b o t)) (listed b o t) (none_conflicts (plan_of b o t) calm)

      at : (x : Bool) → is_listed (row_at b o t (get_or ps j d)) ≡ x → is_taken (row_at b o t (get_or ps j d)).choice ≡ true
      at true is = taken_of _ _ (all_listed (row_at b o t) (λ r. does_conflict (marked (listed b o t) r) ≡ false) ps none j d within is)
      at false is = unlisted_taken (entry_at b (get_or ps j d)) (entry_at o (get_or ps j d)) (entry_at t (get_or ps j d)) is

  -- of two paths none is a folder of the other
  none_under : (j k : ℕ) (d : List ℕ) → j < length ps → k < length ps → is_under (row_at b o t (get_or ps j d)) (row_at b o t (get_or ps k d)) ≡ false
  none_under j k d lj lk = at (is_under (row_at b o t (get_or ps j d)) (row_at b o t (get_or ps k d))) refl
    where
      at : (x : Bool) → is_under (row_at b o t (get_or ps j d)) (row_at b o t (get_or ps k d)) ≡ x → x ≡ false
      at false e = refl
      at true e =
          let first = split_and (is_present (row_at b o t (get_or ps j d)).choice) _ e in
          let then = split_and (is_present (row_at b o t (get_or ps k d)).choice) _ first.1 in
          let less = folder_less (get_or ps j d) (get_or ps k d) then.1 in
          let ne = less_apart (get_or ps j d) (get_or ps k d) less in
          let free = pair_apart b o t maps (no_clash (plan_of b o t) calm) j k d lj lk ne (taken_there _ (taken_each j d lj) first.0) (taken_there _ (taken_each k d lk) then.0) in
          absurd (clash_none (get_or ps j d) (get_or ps k d) free then.1)

  mapped_at : (qs : List (List ℕ)) (k : ℕ) (d : List ℕ) (e : Planned) → k < length qs
      → get_or (map (row_at b o t) qs) k e ≡ row_at b o t (get_or qs k d)
  mapped_at [] k d e l = absurd (omega arith)
  mapped_at (q ∷ qs) zero d e l = refl
  mapped_at (q ∷ qs) (suc k) d e l = mapped_at qs k d e (omega arith)

  mapped_length : (qs : List (List ℕ)) → length (map (row_at b o t) qs) ≡ length qs
  mapped_length [] = refl
  mapped_length (q ∷ qs) = ap suc (mapped_length qs)

  -- no row passes a test that none of the paths passes
  none_passes : (test : Planned → Bool) (d : List ℕ) → ((k : ℕ) → k < length ps → test (row_at b o t (get_or ps k d)) ≡ false)
      → list_any test (all_rows b o t) ≡ false
  none_passes test d h =
      ap (list_any test) (sym (take-length (all_rows b o t)))
      ∙ any_none test (all_rows b o t) (length (all_rows b o t)) (λ k e l within. ap test (mapped_at ps k d e (subst (λ (n : ℕ). k < n) (mapped_length ps) within)) ∙ h k (subst (λ (n : ℕ). k < n) (mapped_length ps) within))

  unclashed : (j : ℕ) (d : List ℕ) → j < length ps → (marked (all_rows b o t) (row_at b o t (get_or ps j d))).clash ≡ false
  unclashed j d within =
      rw (none_passes (λ other. is_under (row_at b o t (get_or ps j d)) other) d (λ k l. none_under j k d within l), none_passes (λ other. is_under other (row_at b o t (get_or ps j d))) d (λ k l. none_under k j d l within)) refl

  -- a path at which an entry is taken, and that does not clash
  pub record IsClean (p : List ℕ) : Type 0 where
    pub takes : is_taken (row_at b o t p).choice ≡ true
    pub clash : (marked (all_rows b o t) (row_at b o t p)).clash ≡ false

  each_clean : (qs : List (List ℕ)) → ((j : ℕ) (d : List ℕ) → j < length qs → IsClean (get_or qs j d)) → AllByRecursion IsClean qs
  each_clean [] h = tt
  each_clean (q ∷ qs) h = (h zero q (omega arith), each_clean qs (λ j d l. h (suc j) d (omega arith)))

  pub all_clean : AllByRecursion IsClean ps
  all_clean = each_clean ps (λ j d l. record { takes = taken_each j d l; clash = unclashed j d l })
