-- Where nothing conflicts, the merge is the map of what is taken, whatever ends are given.
use Rattle.std.proofs.Common.{◌≡◌, Bool, true, false, cond, List, [], ◌∷◌, ◌++◌, drop, Option, Some, None, refl, ap, ◌∙◌}
use Rattle.std.specs.Prelude.{map, ◌||◌, option_map}
use Rattle.std.specs.Option.{option_map_or}
use Rattle.std.specs.List.{AllByRecursion, cons_option, filter_map, list_any}
use Rattle.driver_pool.specs.declared.end.DriverEnd.{DriverEnd}
use Rattle.seq_base.specs.declared.map.Entry.{Entry}
use Rattle.seq_base.specs.PathMaps.{Entries, IsPathMap}
use Rattle.seq_base.specs.Words.{Path}
use Rattle.seq_outside.specs.declared.child.Exit.{Exit}
use Rattle.tree_merge.specs.declared.plans.Planned.{Planned}
use Rattle.tree_merge.specs.declared.rules.Choice.{Choice}
use Rattle.tree_merge.specs.declared.rules.Choice.TheVariants as chosen
use Rattle.tree_merge.specs.Plans.{all_rows, marked, paths_of, plan_of, row_at, whole_plan_of}
use Rattle.tree_merge.specs.Results.{conflict_in, is_taken, result_of, taken, taken_at}
use Rattle.tree_merge.proofs.Apart.{AreMaps}
use Rattle.tree_merge.proofs.Whole.{IsClean, all_clean}
use Rattle.content_merge.specs.Fates.{all_settled, apart_fate, end_in_front, fate_of, lower_file}
use Rattle.content_merge.specs.Merging.{clean_of, conflicts, entry_of, exit_of, first_broken, is_conflict, map_row, merge_of, new_text, row_text, unbroken}
use Rattle.content_merge.specs.declared.fates.Fate.{Fate}
use Rattle.content_merge.specs.declared.fates.Fate.TheVariants as fate
use Rattle.content_merge.specs.declared.merged.Merged.TheVariants as merged
use Rattle.content_merge.specs.declared.fates.Settled.{Settled}

choice_taken : (c : Choice) (ours : Option Entry) (end : Option DriverEnd) → is_taken c ≡ true → apart_fate c ours end ≡ fate.Take (taken c)
choice_taken (chosen.Take entry) ours end is = refl
choice_taken (chosen.Content mode clean) ours end is = absurd cc
choice_taken (chosen.Conflict file) ours end is = absurd cc

fate_taken : (row : Planned) (end : Option DriverEnd) → row.clash ≡ false → is_taken row.choice ≡ true
    → fate_of row end ≡ fate.Take (taken row.choice)
fate_taken row end free is =
    ap (λ (clash : Bool). cond clash (fate.Conflict (cond row.written (lower_file row.choice row.ours) None)) (apart_fate row.choice row.ours end)) free
    ∙ choice_taken row.choice row.ours end is

module _ (b o t : Entries) (maps : AreMaps b o t) (calm : conflict_in (plan_of b o t) ≡ None) where
  abbrev rows : List Path → List (Option DriverEnd) → List Settled
  rows ps ends = all_settled (map (marked (all_rows b o t)) (map (row_at b o t) ps)) ends

  abbrev taken_in : List Path → Entries
  taken_in ps = filter_map (λ path. option_map (λ entry. (path, entry)) (taken_at b o t path)) ps

  -- what these rows come to
  record Comes (ps : List Path) (ends : List (Option DriverEnd)) : Type 0 where
    entries : filter_map map_row (rows ps ends) ≡ taken_in ps
    texts : filter_map row_text (rows ps ends) ≡ []
    none : list_any conflicts (rows ps ends) ≡ false
    unbroken : first_broken (rows ps ends) ≡ None

  comes : (ps : List Path) (ends : List (Option DriverEnd)) → AllByRecursion (IsClean b o t maps calm) ps → Comes ps ends
  comes [] ends h = record { entries = refl; texts = refl; none = refl; unbroken = refl }
  comes (p ∷ ps) ends h =
      let rest = comes ps (drop 1 ends) h.1 in
      let is : fate_of (marked (all_rows b o t) (row_at b o t p)) (end_in_front ends) ≡ fate.Take (taken_at b o t p) =
      fate_taken (marked (all_rows b o t) (row_at b o t p)) (end_in_front ends) h.0.clash h.0.takes in
      let later = rows ps (drop 1 ends) in
      record {
        entries = ap (λ (f : Fate). cons_option (option_map (λ (e : Entry). (p, e)) (entry_of f)) (filter_map map_row later)) is
            ∙ ap (cons_option (option_map (λ (e : Entry). (p, e)) (taken_at b o t p))) rest.entries;
        texts = ap (λ (f : Fate). cons_option (new_text f) (filter_map row_text later)) is ∙ rest.texts;
        none = ap (λ (f : Fate). is_conflict f || list_any conflicts later) is ∙ rest.none;
        unbroken = ap (λ (f : Fate). option_map_or (λ (exit : Exit). Some (p, exit)) (exit_of f) (first_broken later)) is ∙ rest.unbroken;
      }

  pub clean_is : (ends : List (Option DriverEnd)) → merge_of b o t ends ≡ merged.Clean (result_of b o t) []
  unfolding clean_of
  clean_is ends =
      let all = comes (paths_of (b ++ o ++ t)) ends (all_clean b o t maps calm) in
      ap (λ (found : Option (Path × Exit)). option_map_or (λ (at : Path × Exit). merged.Broken at.0 at.1 false) found (unbroken (all_settled (whole_plan_of b o t) ends))) all.unbroken
      ∙ ap (λ (any : Bool). cond any (Rattle.content_merge.specs.Merging.conflict_of (all_settled (whole_plan_of b o t) ends)) (clean_of (all_settled (whole_plan_of b o t) ends))) all.none
      ∙ (λ i. merged.Clean (all.entries i) (all.texts i))

pub merge_is_result : (b o t : Entries) (ends : List (Option DriverEnd)) → IsPathMap b → IsPathMap o → IsPathMap t
    → conflict_in (plan_of b o t) ≡ None → merge_of b o t ends ≡ merged.Clean (result_of b o t) []
merge_is_result b o t ends base ours theirs calm = clean_is b o t (record { base = base; ours = ours; theirs = theirs }) calm ends
