-- What a merge takes is a map, whatever its drivers did: no path lies below another, and none is a folder.
use Rattle.std.proofs.Common.{◌≡◌, Bool, true, false, cond, ◌||◌, ◌&&◌, List, [], ◌∷◌, ◌++◌, drop, Option, Some, None, refl, subst}
use Rattle.std.specs.Prelude.{map, option_map}
use Rattle.std.specs.Option.{option_map_or}
use Rattle.std.specs.List.{AllByRecursion, cons_option, filter_map, list_any}
use Rattle.driver_pool.specs.declared.end.DriverEnd.{DriverEnd}
use Rattle.driver_pool.specs.declared.end.DriverEnd.TheVariants as ended
use Rattle.seq_base.specs.declared.map.Entry.{Entry}
use Rattle.seq_base.specs.declared.mode.Mode.{Mode}
use Rattle.seq_base.specs.PathMaps.{AreApart, Entries, HoldsFiles, IsAscending, IsPathMap, clashes, entry_at, is_less}
use Rattle.seq_base.specs.Words.{Path, Text}
use Rattle.seq_base.specs.World.{is_below}
use Rattle.seq_outside.specs.declared.child.Exit.{Exit}
use Rattle.tree_merge.specs.declared.plans.Planned.{Planned}
use Rattle.tree_merge.specs.declared.rules.Choice.{Choice}
use Rattle.tree_merge.specs.declared.rules.Choice.TheVariants as chosen
use Rattle.tree_merge.specs.Plans.{all_rows, is_lower, is_present, is_under, is_upper, marked, paths_of, row_at, whole_plan_of}
use Rattle.tree_merge.proofs.Files.{HasFile, IsFile, choice_file, file_at}
use Rattle.tree_merge.proofs.InOrder.{Ascends, ascends_paths}
use Rattle.content_merge.specs.Fates.{all_settled, apart_fate, content_fate, end_in_front, fate_of, lower_file}
use Rattle.content_merge.specs.Merging.{clean_of, conflict_of, conflicts, entry_of, first_broken, map_row, merge_of, merged_of}
use Rattle.content_merge.specs.declared.fates.Fate.TheVariants as fate
use Rattle.content_merge.specs.declared.fates.Settled.{Settled}
use Rattle.content_merge.specs.declared.merged.Merged.TheVariants as merged

-- what a row says that gives its path an entry
pub record Gives (row : Planned) (e : Entry) : Type 0 where
  pub clash : row.clash ≡ false
  pub present : is_present row.choice ≡ true
  pub file : HasFile row.choice → IsFile e.mode

content_gives : (ours : Option Entry) (mode : Mode) (clean : Bool) (end : Option DriverEnd) (e : Entry)
    → entry_of (content_fate ours mode clean end) ≡ Some e → mode ≡ e.mode
content_gives ours mode true None e is = absurd cc
content_gives ours mode false None e is = absurd cc
content_gives ours mode true (Some (ended.Clean bytes)) e is = cc
content_gives ours mode false (Some (ended.Clean bytes)) e is = absurd cc
content_gives ours mode true (Some (ended.Conflict bytes)) e is = absurd cc
content_gives ours mode false (Some (ended.Conflict bytes)) e is = absurd cc
content_gives ours mode true (Some (ended.Broken exit)) e is = absurd cc
content_gives ours mode false (Some (ended.Broken exit)) e is = absurd cc

choice_gives : (c : Choice) (ours : Option Entry) (end : Option DriverEnd) (e : Entry) → entry_of (apart_fate c ours end) ≡ Some e
    → (is_present c ≡ true) × (HasFile c → IsFile e.mode)
choice_gives (chosen.Take None) ours end e is = absurd cc
choice_gives (chosen.Take (Some x)) ours end e is = (refl, λ h. h e is)
choice_gives (chosen.Content mode clean) ours end e is = (refl, λ h. subst IsFile (content_gives ours mode clean end e is) h)
choice_gives (chosen.Conflict file) ours end e is = absurd cc

pub row_gives : (row : Planned) (end : Option DriverEnd) (e : Entry) → entry_of (fate_of row end) ≡ Some e → Gives row e
row_gives row end e is = at row.clash refl is
  where
    at : (clash : Bool) → row.clash ≡ clash
        → entry_of (cond clash (fate.Conflict (cond row.written (lower_file row.choice row.ours) None)) (apart_fate row.choice row.ours end)) ≡ Some e
        → Gives row e
    at true is_clash is = absurd cc
    at false is_clash is = let both = choice_gives row.choice row.ours end e is in record { clash = is_clash; present = both.0; file = both.1 }

pub neither : (a b : Bool) → (a || b) ≡ false → (a ≡ false) × (b ≡ false)
neither true b e = absurd cc
neither false b e = (refl, e)

-- of two that are there, none lies below the other
pub none_below : (x y below : Bool) → x ≡ true → y ≡ true → x && (y && below) ≡ false → below ≡ false
none_below true true below p q e = e
none_below true false below p q e = absurd cc
none_below false y below p q e = absurd cc

module _ (b o t : Entries) where
  abbrev pub all : List Planned
  all = all_rows b o t

  abbrev pub rows : List Path → List Planned
  rows ps = map (marked all) (map (row_at b o t) ps)

  abbrev kept : List Path → List (Option DriverEnd) → Entries
  kept ps ends = filter_map map_row (all_settled (rows ps) ends)

  -- a path with what it is given, and what the others are given
  abbrev with_row : Path → Option Entry → Entries → Entries
  with_row p v rest = cons_option (option_map (λ e. (p, e)) v) rest

  -- ---- in order

  behind : (p : Path) (ps : List Path) (ends : List (Option DriverEnd)) → AllByRecursion (λ q. is_less p q ≡ true) ps
      → AllByRecursion (λ d. is_less p d.0 ≡ true) (kept ps ends)
  behind p [] ends h = tt
  behind p (q ∷ ps) ends h = at (entry_of (fate_of (marked all (row_at b o t q)) (end_in_front ends))) (behind p ps (drop 1 ends) h.1)
    where
      at : (v : Option Entry) → AllByRecursion (λ d. is_less p d.0 ≡ true) (kept ps (drop 1 ends))
          → AllByRecursion (λ d. is_less p d.0 ≡ true) (with_row q v (kept ps (drop 1 ends)))
      at None rest = rest
      at (Some e) rest = (h.0, rest)

  ascending : (ps : List Path) (ends : List (Option DriverEnd)) → Ascends ps → IsAscending (kept ps ends)
  ascending [] ends up = tt
  ascending (p ∷ ps) ends up = at (entry_of (fate_of (marked all (row_at b o t p)) (end_in_front ends))) (ascending ps (drop 1 ends) up.1)
    where
      at : (v : Option Entry) → IsAscending (kept ps (drop 1 ends)) → IsAscending (with_row p v (kept ps (drop 1 ends)))
      at None rest = rest
      at (Some e) rest = (behind p ps (drop 1 ends) up.0, rest)

  -- ---- apart

  -- what no row of all is, none of these is
  pub record AreAmong (ps : List Path) : Type 0 where
    pub none : (test : Planned → Bool) → list_any test all ≡ false → list_any test (map (row_at b o t) ps) ≡ false

  pub among_later : (p : Path) (ps : List Path) → AreAmong (p ∷ ps) → AreAmong ps
  among_later p ps h = record { none = λ test e. (neither (test (row_at b o t p)) (list_any test (map (row_at b o t) ps)) (h.none test e)).1 }

  pub among_first : (p : Path) (ps : List Path) → AreAmong (p ∷ ps) → (test : Planned → Bool) → list_any test all ≡ false
      → test (row_at b o t p) ≡ false
  among_first p ps h test e = (neither (test (row_at b o t p)) (list_any test (map (row_at b o t) ps)) (h.none test e)).0

  apart_from : (r : Planned) → is_present r.choice ≡ true → is_upper all r ≡ false → is_lower all r ≡ false
      → (ps : List Path) (ends : List (Option DriverEnd)) → AreAmong ps → AllByRecursion (λ d. clashes r.path d.0 ≡ false) (kept ps ends)
  apart_from r there upper lower [] ends among = tt
  apart_from r there upper lower (q ∷ ps) ends among =
      at (entry_of (fate_of (marked all (row_at b o t q)) (end_in_front ends))) refl (apart_from r there upper lower ps (drop 1 ends) (among_later q ps among))
    where
      under : is_under r (row_at b o t q) ≡ false
      under = among_first q ps among (λ other. is_under r other) upper

      over : is_under (row_at b o t q) r ≡ false
      over = among_first q ps among (λ other. is_under other r) lower

      at : (v : Option Entry) → entry_of (fate_of (marked all (row_at b o t q)) (end_in_front ends)) ≡ v
          → AllByRecursion (λ d. clashes r.path d.0 ≡ false) (kept ps (drop 1 ends))
          → AllByRecursion (λ d. clashes r.path d.0 ≡ false) (with_row q v (kept ps (drop 1 ends)))
      at None is rest = rest
      at (Some e) is rest =
          let gives = row_gives (marked all (row_at b o t q)) (end_in_front ends) e is in
          let here : is_below r.path q ≡ false = none_below (is_present r.choice) (is_present (row_at b o t q).choice) (is_below r.path q) there gives.present under in
          let there_too : is_below q r.path ≡ false = none_below (is_present (row_at b o t q).choice) (is_present r.choice) (is_below q r.path) gives.present there over in
          (rw (here, there_too) refl, rest)

  apart : (ps : List Path) (ends : List (Option DriverEnd)) → AreAmong ps → AreApart (kept ps ends)
  apart [] ends among = tt
  apart (p ∷ ps) ends among =
      at (entry_of (fate_of (marked all (row_at b o t p)) (end_in_front ends))) refl (apart ps (drop 1 ends) (among_later p ps among))
    where
      at : (v : Option Entry) → entry_of (fate_of (marked all (row_at b o t p)) (end_in_front ends)) ≡ v → AreApart (kept ps (drop 1 ends))
          → AreApart (with_row p v (kept ps (drop 1 ends)))
      at None is rest = rest
      at (Some e) is rest =
          let gives = row_gives (marked all (row_at b o t p)) (end_in_front ends) e is in
          let free = neither (is_upper all (row_at b o t p)) (is_lower all (row_at b o t p)) gives.clash in
          (apart_from (row_at b o t p) gives.present free.0 free.1 ps (drop 1 ends) (among_later p ps among), rest)

  -- ---- no folders

  files : HoldsFiles o → HoldsFiles t → (ps : List Path) (ends : List (Option DriverEnd)) → HoldsFiles (kept ps ends)
  files fo ft [] ends = tt
  files fo ft (p ∷ ps) ends = at (entry_of (fate_of (marked all (row_at b o t p)) (end_in_front ends))) refl (files fo ft ps (drop 1 ends))
    where
      at : (v : Option Entry) → entry_of (fate_of (marked all (row_at b o t p)) (end_in_front ends)) ≡ v → HoldsFiles (kept ps (drop 1 ends))
          → HoldsFiles (with_row p v (kept ps (drop 1 ends)))
      at None is rest = rest
      at (Some e) is rest =
          let gives = row_gives (marked all (row_at b o t p)) (end_in_front ends) e is in
          (gives.file (choice_file (entry_at b p) (entry_at o p) (entry_at t p) (file_at o p fo) (file_at t p ft)), rest)

-- whatever ends the drivers give
pub settled_map : (b o t : Entries) (ends : List (Option DriverEnd)) → IsPathMap b → IsPathMap o → IsPathMap t
    → IsPathMap (filter_map map_row (all_settled (whole_plan_of b o t) ends))
settled_map b o t ends base ours theirs = record {
  ascending = ascending b o t (paths_of (b ++ o ++ t)) ends (ascends_paths (b ++ o ++ t));
  apart = apart b o t (paths_of (b ++ o ++ t)) ends (record { none = λ test e. e });
  files = files b o t ours.files theirs.files (paths_of (b ++ o ++ t)) ends;
}

module _ (rows : List Settled) (map : Entries) (texts : List Text) where
  clean_same : clean_of rows ≡ merged.Clean map texts → filter_map map_row rows ≡ map
  unfolding clean_of
  clean_same is = cc

  conflict_differs : conflict_of rows ≡ merged.Clean map texts → ⊥
  unfolding conflict_of
  conflict_differs is = cc

  -- a clean map is what the rows give
  pub clean_rows : merged_of false rows ≡ merged.Clean map texts → filter_map map_row rows ≡ map
  clean_rows is = at (first_broken rows) (list_any conflicts rows) is
    where
      at : (found : Option (Path × Exit)) (any : Bool)
          → option_map_or (λ at. merged.Broken at.0 at.1 false) found (cond any (conflict_of rows) (clean_of rows)) ≡ merged.Clean map texts
          → filter_map map_row rows ≡ map
      at (Some broken) any is = absurd cc
      at None true is = absurd (conflict_differs is)
      at None false is = clean_same is

-- so a merged map is one
pub clean_map : (b o t : Entries) (ends : List (Option DriverEnd)) (map : Entries) (texts : List Text) → IsPathMap b → IsPathMap o → IsPathMap t
    → merge_of b o t ends ≡ merged.Clean map texts → IsPathMap map
clean_map b o t ends map texts base ours theirs is =
    subst IsPathMap (clean_rows (all_settled (whole_plan_of b o t) ends) map texts is) (settled_map b o t ends base ours theirs)
