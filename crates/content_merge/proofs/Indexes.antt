-- The index that a conflict leaves is in order, whatever its drivers did.
use Rattle.std.proofs.Common.{◌≡◌, ◌<◌, ℕ, Bool, true, false, cond, ◌||◌, ◌&&◌, List, [], ◌∷◌, ◌++◌, drop, Option, Some, None, refl, sym, subst, arith}
use Rattle.std.specs.Prelude.{◌==◌}
use Rattle.std.specs.Global.{Vec}
use Rattle.std.specs.Option.{option_map, option_map_or}
use Rattle.std.specs.List.{AllByRecursion, flat_map, list_any}
use Rattle.std.specs.Str.{bytes_eq}
use Rattle.std.proofs.lemmas.Bool.{eqb-true}
use Rattle.driver_pool.specs.declared.end.DriverEnd.{DriverEnd}
use Rattle.index_file.specs.Entries.{IsInOrder, IsStaged, holds, may_precede}
use Rattle.index_file.specs.declared.entry.IndexEntry.{IndexEntry}
use Rattle.seq_base.specs.declared.map.Entry.{Entry}
use Rattle.seq_base.specs.PathMaps.{Entries, IsPathMap, entry_at, is_less}
use Rattle.seq_base.specs.Words.{Path, Text}
use Rattle.seq_base.specs.World.{is_below}
use Rattle.seq_outside.specs.declared.child.Exit.{Exit}
use Rattle.stage_index.specs.Staged.{at_stage}
use Rattle.tree_merge.specs.declared.plans.Planned.{Planned}
use Rattle.tree_merge.specs.Plans.{is_lower, is_present, is_under, is_upper, marked, paths_of, row_at, whole_plan_of}
use Rattle.tree_merge.proofs.Files.{MayBeFile, choice_file, file_at}
use Rattle.tree_merge.proofs.InOrder.{Ascends, ascends_paths}
use Rattle.tree_merge.proofs.Order.{same_self}
use Rattle.tree_merge.proofs.Steps.{not_less_self}
use Rattle.content_merge.specs.Fates.{all_settled, end_in_front, ends_by_path, fate_of, settled}
use Rattle.content_merge.specs.Merging.{HoldsIndex, IsSound, clean_of, conflict_of, conflicts, entry_of, first_broken, is_conflict, merged_of, merged_with, staged_row}
use Rattle.content_merge.specs.Causes.{is_unrun}
use Rattle.content_merge.specs.declared.fates.Settled.{Settled}
use Rattle.content_merge.specs.declared.merged.Merged.TheVariants as merged
use Rattle.content_merge.proofs.Maps.{AreAmong, all, among_first, among_later, neither, none_below, row_gives, rows, settled_map}

module _ {X : Type 0} (P : X → Type 0) where
  all_both : (xs ys : List X) → AllByRecursion P xs → AllByRecursion P ys → AllByRecursion P (xs ++ ys)
  all_both [] ys h k = k
  all_both (x ∷ xs) ys h k = (h.0, all_both xs ys h.1 k)

  all_from : (Q : X → Type 0) → ((x : X) → Q x → P x) → (xs : List X) → AllByRecursion Q xs → AllByRecursion P xs
  all_from Q f [] h = tt
  all_from Q f (x ∷ xs) h = (f x h.0, all_from Q f xs h.1)

in_order_both : (xs ys : List IndexEntry) → IsInOrder xs → IsInOrder ys → AllByRecursion (λ e. AllByRecursion (λ d. may_precede e d ≡ true) ys) xs
    → IsInOrder (xs ++ ys)
in_order_both [] ys h k between = k
in_order_both (x ∷ xs) ys h k between = (all_both (λ d. may_precede x d ≡ true) xs ys h.0 between.0, in_order_both xs ys h.1 k between.1)

-- of one path the lesser stage comes first
stage_first : (p : Path) → ((is_less p p || (bytes_eq p p && true)) && true) ≡ true
stage_first p = rw (not_less_self p, same_self p) refl

stages_in_order : (p : Path) (b o t : Option Entry) → IsInOrder (at_stage p 1 b ++ (at_stage p 2 o ++ at_stage p 3 t))
stages_in_order p None None None = tt
stages_in_order p None None (Some t) = (tt, tt)
stages_in_order p None (Some o) None = (tt, tt)
stages_in_order p None (Some o) (Some t) = ((stage_first p, tt), (tt, tt))
stages_in_order p (Some b) None None = (tt, tt)
stages_in_order p (Some b) None (Some t) = ((stage_first p, tt), (tt, tt))
stages_in_order p (Some b) (Some o) None = ((stage_first p, tt), (tt, tt))
stages_in_order p (Some b) (Some o) (Some t) = ((stage_first p, (stage_first p, tt)), ((stage_first p, tt), (tt, tt)))

one_in_order : (p : Path) (v : Option Entry) → IsInOrder (at_stage p 0 v)
one_in_order p None = tt
one_in_order p (Some e) = (tt, tt)

-- an entry of a path; one that is merged is so for a reason
pub record IsAt (p : Path) (why : Type 0) (d : IndexEntry) : Type 0 where
  pub path : d.path ≡ p
  pub at_zero : d.stage ≡ 0 → why

stages_at : (p : Path) (why : Type 0) (b o t : Option Entry) → AllByRecursion (IsAt p why) (at_stage p 1 b ++ (at_stage p 2 o ++ at_stage p 3 t))
stages_at p why b o t =
    all_both (IsAt p why) (at_stage p 1 b) (at_stage p 2 o ++ at_stage p 3 t) (one 1 b (λ e. absurd (omega (arith, e))))
    (all_both (IsAt p why) (at_stage p 2 o) (at_stage p 3 t) (one 2 o (λ e. absurd (omega (arith, e)))) (one 3 t (λ e. absurd (omega (arith, e)))))
  where
    one : (n : ℕ) (v : Option Entry) → (n ≡ 0 → why) → AllByRecursion (IsAt p why) (at_stage p n v)
    one n None never = tt
    one n (Some e) never = (record { path = refl; at_zero = never }, tt)

merged_at : (p : Path) (why : Type 0) (v : Option Entry) → ((e : Entry) → v ≡ Some e → why) → AllByRecursion (IsAt p why) (at_stage p 0 v)
merged_at p why None h = tt
merged_at p why (Some e) h = (record { path = refl; at_zero = λ is. h e refl }, tt)

stages_staged : (p : Path) (b o t : Option Entry) → MayBeFile b → MayBeFile o → MayBeFile t
    → AllByRecursion IsStaged (at_stage p 1 b ++ (at_stage p 2 o ++ at_stage p 3 t))
stages_staged p b o t fb fo ft =
    all_both IsStaged (at_stage p 1 b) (at_stage p 2 o ++ at_stage p 3 t) (one 1 b (omega arith) fb)
    (all_both IsStaged (at_stage p 2 o) (at_stage p 3 t) (one 2 o (omega arith) fo) (one 3 t (omega arith) ft))
  where
    one : (n : ℕ) (v : Option Entry) → n < 4 → MayBeFile v → AllByRecursion IsStaged (at_stage p n v)
    one n None few file = tt
    one n (Some e) few file = (record { stage = few; mode = file e refl }, tt)

one_staged : (p : Path) (v : Option Entry) → MayBeFile v → AllByRecursion IsStaged (at_stage p 0 v)
one_staged p None file = tt
one_staged p (Some e) file = (record { stage = omega arith; mode = file e refl }, tt)

module _ (b o t : Entries) where
  -- a path that is there, and of which no other is a folder, nor it of another
  pub record IsFree (p : Path) : Type 0 where
    pub present : is_present (row_at b o t p).choice ≡ true
    pub upper : is_upper (all b o t) (row_at b o t p) ≡ false
    pub lower : is_lower (all b o t) (row_at b o t p) ≡ false

  abbrev row : Path → Planned
  row p = marked (all b o t) (row_at b o t p)

  abbrev index : List Path → List (Option DriverEnd) → List IndexEntry
  index ps ends = flat_map staged_row (all_settled (rows b o t ps) ends)

  free_by : (p : Path) (end : Option DriverEnd) (e : Entry) → entry_of (fate_of (row p) end) ≡ Some e → IsFree p
  free_by p end e is =
      let gives = row_gives (row p) end e is in
      let free = neither (is_upper (all b o t) (row_at b o t p)) (is_lower (all b o t) (row_at b o t p)) gives.clash in
      record { present = gives.present; upper = free.0; lower = free.1 }

  row_at_path : (p : Path) (end : Option DriverEnd) → AllByRecursion (IsAt p (IsFree p)) (staged_row (settled (row p) end))
  row_at_path p end = at (is_conflict (fate_of (row p) end))
    where
      at : (c : Bool)
          → AllByRecursion (IsAt p (IsFree p)) (cond c (at_stage p 1 (entry_at b p) ++ (at_stage p 2 (entry_at o p) ++ at_stage p 3 (entry_at t p))) (at_stage p 0 (entry_of (fate_of (row p) end))))
      at true = stages_at p (IsFree p) (entry_at b p) (entry_at o p) (entry_at t p)
      at false = merged_at p (IsFree p) (entry_of (fate_of (row p) end)) (free_by p end)

  row_in_order : (p : Path) (end : Option DriverEnd) → IsInOrder (staged_row (settled (row p) end))
  row_in_order p end = at (is_conflict (fate_of (row p) end))
    where
      at : (c : Bool)
          → IsInOrder (cond c (at_stage p 1 (entry_at b p) ++ (at_stage p 2 (entry_at o p) ++ at_stage p 3 (entry_at t p))) (at_stage p 0 (entry_of (fate_of (row p) end))))
      at true = stages_in_order p (entry_at b p) (entry_at o p) (entry_at t p)
      at false = one_in_order p (entry_of (fate_of (row p) end))

  -- ---- one row before another

  -- of two free paths none is a folder of the other
  free_apart : (p q : Path) (ps : List Path) → IsFree p → IsFree q → AreAmong b o t (q ∷ ps) → is_below p q ≡ false
  free_apart p q ps fp fq among =
      none_below (is_present (row_at b o t p).choice) (is_present (row_at b o t q).choice) (is_below p q) fp.present fq.present (among_first b o t q ps among (λ other. is_under (row_at b o t p) other) fp.upper)

  precedes : (p q : Path) (ps : List Path) (e d : IndexEntry) → is_less p q ≡ true → AreAmong b o t (q ∷ ps) → IsAt p (IsFree p) e
      → IsAt q (IsFree q) d → may_precede e d ≡ true
  precedes p q ps e d less among he hd =
      let before : is_less e.path d.path ≡ true = subst (λ (x : Path). is_less x d.path ≡ true) (sym he.path) (subst (λ (x : Path). is_less p x ≡ true) (sym hd.path) less) in
      let apart : holds e d ≡ false = at (e.stage == 0) refl (d.stage == 0) refl in
      rw (before, apart) refl
    where
      at : (x : Bool) → (e.stage == 0) ≡ x → (y : Bool) → (d.stage == 0) ≡ y → x && (y && is_below e.path d.path) ≡ false
      at true ex true ey =
          let fp = he.at_zero (eqb-true e.stage 0 ex) in
          let fq = hd.at_zero (eqb-true d.stage 0 ey) in
          subst (λ (x : Path). is_below x d.path ≡ false) (sym he.path) (subst (λ (x : Path). is_below p x ≡ false) (sym hd.path) (free_apart p q ps fp fq among))
      at true ex false ey = refl
      at false ex y ey = refl

  precedes_all : (p : Path) (e : IndexEntry) → IsAt p (IsFree p) e → (ps : List Path) (ends : List (Option DriverEnd))
      → AllByRecursion (λ q. is_less p q ≡ true) ps → AreAmong b o t ps
      → AllByRecursion (λ d. may_precede e d ≡ true) (index ps ends)
  precedes_all p e he [] ends less among = tt
  precedes_all p e he (q ∷ ps) ends less among =
      all_both (λ d. may_precede e d ≡ true) (staged_row (settled (row q) (end_in_front ends))) (index ps (drop 1 ends))
      (all_from (λ d. may_precede e d ≡ true) (IsAt q (IsFree q)) (λ d hd. precedes p q ps e d less.0 among he hd) (staged_row (settled (row q) (end_in_front ends))) (row_at_path q (end_in_front ends)))
      (precedes_all p e he ps (drop 1 ends) less.1 (among_later b o t q ps among))

  in_order : (ps : List Path) (ends : List (Option DriverEnd)) → Ascends ps → AreAmong b o t ps → IsInOrder (index ps ends)
  in_order [] ends up among = tt
  in_order (p ∷ ps) ends up among =
      in_order_both (staged_row (settled (row p) (end_in_front ends))) (index ps (drop 1 ends)) (row_in_order p (end_in_front ends)) (in_order ps (drop 1 ends) up.1 (among_later b o t p ps among))
      (all_from (λ e. AllByRecursion (λ d. may_precede e d ≡ true) (index ps (drop 1 ends))) (IsAt p (IsFree p)) (λ e he. precedes_all p e he ps (drop 1 ends) up.0 (among_later b o t p ps among))
      (staged_row (settled (row p) (end_in_front ends))) (row_at_path p (end_in_front ends)))

  -- ---- stages and modes

  row_staged : IsPathMap b → IsPathMap o → IsPathMap t → (p : Path) (end : Option DriverEnd)
      → AllByRecursion IsStaged (staged_row (settled (row p) end))
  row_staged mb mo mt p end = at (is_conflict (fate_of (row p) end))
    where
      file : MayBeFile (entry_of (fate_of (row p) end))
      file e is =
          (row_gives (row p) end e is).file (choice_file (entry_at b p) (entry_at o p) (entry_at t p) (file_at o p mo.files) (file_at t p mt.files))

      at : (c : Bool)
          → AllByRecursion IsStaged (cond c (at_stage p 1 (entry_at b p) ++ (at_stage p 2 (entry_at o p) ++ at_stage p 3 (entry_at t p))) (at_stage p 0 (entry_of (fate_of (row p) end))))
      at true = stages_staged p (entry_at b p) (entry_at o p) (entry_at t p) (file_at b p mb.files) (file_at o p mo.files) (file_at t p mt.files)
      at false = one_staged p (entry_of (fate_of (row p) end)) file

  all_staged : IsPathMap b → IsPathMap o → IsPathMap t → (ps : List Path) (ends : List (Option DriverEnd)) → AllByRecursion IsStaged (index ps ends)
  all_staged mb mo mt [] ends = tt
  all_staged mb mo mt (p ∷ ps) ends =
      all_both IsStaged (staged_row (settled (row p) (end_in_front ends))) (index ps (drop 1 ends)) (row_staged mb mo mt p (end_in_front ends)) (all_staged mb mo mt ps (drop 1 ends))

-- the plan of three maps
pub plan_sound : (b o t : Entries) → IsPathMap b → IsPathMap o → IsPathMap t → IsSound (whole_plan_of b o t)
plan_sound b o t mb mo mt = record {
  map = λ ends. settled_map b o t ends mb mo mt;
  in_order = λ ends. in_order b o t (paths_of (b ++ o ++ t)) ends (ascends_paths (b ++ o ++ t)) (record { none = λ test e. e });
  staged = λ ends. all_staged b o t mb mo mt (paths_of (b ++ o ++ t)) ends;
}

-- so the index that a conflict leaves is one
module _ (plan : List Planned) (sound : IsSound plan) (ends : List (Option DriverEnd)) where
  conflict_holds : HoldsIndex (conflict_of (all_settled plan ends))
  unfolding conflict_of
  conflict_holds few = record { in_order = sound.in_order ends; staged = sound.staged ends; few = few }

  clean_holds : HoldsIndex (clean_of (all_settled plan ends))
  unfolding clean_of
  clean_holds = tt

  pub merged_holds : (unrun : Bool) → HoldsIndex (merged_of unrun (all_settled plan ends))
  merged_holds unrun = at (first_broken (all_settled plan ends)) (list_any conflicts (all_settled plan ends))
    where
      at : (found : Option (Path × Exit)) (any : Bool)
          → HoldsIndex (option_map_or (λ at. merged.Broken at.0 at.1 unrun) found (cond any (conflict_of (all_settled plan ends)) (clean_of (all_settled plan ends))))
      at (Some broken) any = tt
      at None true = conflict_holds
      at None false = clean_holds

-- ---- whether a driver could not be run

conflict_runs : (rows : List Settled) → is_unrun (conflict_of rows) ≡ false
unfolding conflict_of
conflict_runs rows = refl

clean_runs : (rows : List Settled) → is_unrun (clean_of rows) ≡ false
unfolding clean_of
clean_runs rows = refl

all_run : (rows : List Settled) → is_unrun (merged_of false rows) ≡ false
all_run rows = at (first_broken rows) (list_any conflicts rows)
  where
    at : (found : Option (Path × Exit)) (any : Bool)
        → is_unrun (option_map_or (λ at. merged.Broken at.0 at.1 false) found (cond any (conflict_of rows) (clean_of rows))) ≡ false
    at (Some broken) any = refl
    at None true = conflict_runs rows
    at None false = clean_runs rows

-- where the merge says so, there were no ends
pub unrun_none : (rows : List Planned) (drivers : List (Option Text)) (ends : Option (Vec DriverEnd))
    → is_unrun (merged_with rows drivers (option_map (λ v. v.items) ends)) ≡ true → ends ≡ None
unrun_none rows drivers None e = refl
unrun_none rows drivers (Some v) e = let runs = all_run (all_settled rows (ends_by_path drivers v.items)) in absurd (cc)
