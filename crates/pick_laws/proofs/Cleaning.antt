-- A pick begins on a HEAD that is at a commit, where no file differs from the index.
use Rattle.std.proofs.Common.{◌≡◌, Bool, true, false, List, [], ◌∷◌, ◌++◌, Option, Some, None, Result, Ok, Err, refl, sym, ap, subst, ◌∙◌}
use Rattle.std.specs.Option.{option_to_list}
use Rattle.stage_index.specs.Changes.{changed, dirty, staged}
use Rattle.stage_index.specs.Least.{least}
use Rattle.stage_index.specs.Stages.{Entries}
use Rattle.stage_index.proofs.Leasts.{least_at}
use Rattle.stage_index.proofs.Orders.{less_back, not_less_itself}
use Rattle.index_file.specs.declared.entry.IndexEntry.{IndexEntry}
use Rattle.seq_base.specs.PathMaps.{is_less}
use Rattle.seq_base.specs.Words.{Id, Name, Path, Text}
use Rattle.seq_base.specs.World.{World}
use Rattle.seq_model.specs.Checks.{born, commit_by, denied_refs, has_refs, is_repository, place_at, place_in}
use Rattle.ref_store.specs.Values.{head_at, value_at}
use Rattle.ref_store.specs.declared.fault.RefFault.{RefFault}
use Rattle.ref_text.specs.Refs.{head_name}
use Rattle.ref_text.specs.declared.head.Head.{Head}
use Rattle.seq_model.specs.Committers.{committer_in}
use Rattle.seq_model.specs.Basis.{Basis, basis_at, index_named, unmerged}
use Rattle.seq_model.specs.Settings.{settings_in}
use Rattle.seq_model.specs.Pick.{Finding, Merging, clean_map, found, found_at, found_in, found_on, is_clean, merged_into, merged_onto, merging_of, only_parent}
use Rattle.seq_model.specs.Refusing.{denied_file, refuse_found}
use Rattle.seq_model.specs.Unbuilt.{only_built}
use Rattle.seq_model.specs.declared.place.Place.{Place}
use Rattle.seq_model.specs.declared.refusal.Refusal.{Refusal}
use Rattle.seq_model.specs.declared.refusal.Refusal.TheVariants.{Dirty, Unmerged}
use Rattle.seq_outside.specs.Halts.{for_reason}
use Rattle.objects.specs.Named.{commit_named}
use Rattle.path_trees.specs.Named.{commit_map}
use Rattle.pick_laws.proofs.Turning.{ok_is}
use Rattle.pick_laws.proofs.Blobs.{bound}

-- of two paths one is the least
two : (p q : Path) (b : Bool) → is_less q p ≡ b → least (p ∷ q ∷ []) ≡ None → ⊥
two p q true is none = absurd (let some = sym none ∙ least_at (p ∷ []) [] q (is, tt) (less_back q p is, (not_less_itself q, tt)) in cc)
two p q false is none = absurd (let some = sym none ∙ least_at [] (q ∷ []) p tt (not_less_itself p, (is, tt)) in cc)

none_changed : (c s : Option Path) → least (option_to_list c ++ option_to_list s) ≡ None → c ≡ None
none_changed None s none = refl
none_changed (Some p) None none = absurd (let some = sym none ∙ least_at [] [] p tt (not_less_itself p, tt) in cc)
none_changed (Some p) (Some q) none = absurd (two p q (is_less q p) refl none)

not_found : (o : Option Path) (why : Path → Refusal) (x : Unit {0}) → refuse_found o why ≡ Ok x → o ≡ None
not_found None why x e = refl
not_found (Some p) why x e = absurd cc

pub clean_is : (w : World) (index : List IndexEntry) (ours : Entries) (x : Unit {0}) → is_clean w index ours ≡ Ok x → changed w index ≡ None
unfolding is_clean
clean_is w index ours x e = none_changed (changed w index) (staged index ours) (not_found (dirty w index ours) Dirty x e)

pub merging_clean : (w : World) (head : Id) (index : List IndexEntry) (pick : Id) (m : Merging) → merging_of w head index pick ≡ Ok m
    → changed w m.index ≡ None
unfolding merging_of merged_into clean_map
merging_clean w head index pick m e =
    let two = bound (for_reason denied_file (commit_named w pick)) _ m e in
    let three = bound (only_parent two.0.parents) _ m two.2 in
    let four = bound (refuse_found (unmerged index) Unmerged) _ m three.2 in
    let five = bound (clean_map w head index) _ m four.2 in
    let six = bound (merged_onto w five.0 three.0 two.0.tree) _ m five.2 in
    let same = ok_is (record { index = index; commit = two.0; ours = five.0; map = six.0 }) m six.2 in
    let a = bound (for_reason denied_file (commit_map w head)) _ five.0 five.1 in
    let b = bound (is_clean w index a.0) _ five.0 a.2 in
    ap (λ (x : Merging). changed w x.index) (sym same) ∙ clean_is w index a.0 b.0 b.1

-- ---- what a pick found

-- HEAD was read, and no file differs from the index
pub record HasFound (w : World) (finding : Finding) : Type 0 where
  pub on : head_at w ≡ Ok finding.on
  pub clean : changed w finding.merging.index ≡ None

read_is : (r : Result Head RefFault) (head : Head) → for_reason denied_refs r ≡ Ok head → r ≡ Ok head
read_is (Ok x) head e = let same = ok_is x head e in ap Ok same
read_is (Err why) head e = absurd cc

placed : (w : World) (place : Place) → place_in w ≡ Ok place → head_at w ≡ Ok place.head
unfolding place_in place_at
placed w place e =
    let one = bound (place_at w) _ place e in
    let two = bound (has_refs w) _ place one.2 in
    let three = bound (for_reason denied_refs (head_at w)) _ one.0 one.1 in
    let four = bound (for_reason denied_refs (value_at w head_name)) _ one.0 three.2 in
    let same = ok_is one.0 place two.2 in
    let here = ok_is (record { head = three.0; tip = four.0 }) one.0 four.2 in
    read_is (head_at w) three.0 three.1 ∙ ap (λ (p : Place). Ok p.head) here ∙ ap (λ (p : Place). Ok p.head) same

based : (w : World) (basis : Basis) → basis_at w ≡ Ok basis → head_at w ≡ Ok basis.place.head
unfolding basis_at
based w basis e =
    let one = bound (place_in w) _ basis e in
    let two = bound (settings_in w) _ basis one.2 in
    let three = bound (index_named w) _ basis two.2 in
    let same = ok_is (record { place = one.0; settings = two.0; index = three.0 }) basis three.2 in
    subst (λ (g : Basis). head_at w ≡ Ok g.place.head) same (placed w one.0 one.1)

pub has_found : (vars : List (Name × Text)) (word : Text) (w : World) (finding : Finding) → found vars word w ≡ Ok finding → HasFound w finding
unfolding found found_in found_at found_on
has_found vars word w finding e =
    let one = bound (is_repository w) _ finding e in
    let two = bound (only_built w) _ finding one.2 in
    let three = bound (basis_at w) _ finding two.2 in
    let four = bound (commit_by w word) _ finding three.2 in
    let five = bound (born three.0.place.tip) _ finding four.2 in
    let six = bound (committer_in vars three.0.settings) _ finding five.2 in
    let seven = bound (merging_of w five.0 three.0.index four.0) _ finding six.2 in
    let same = ok_is (record { on = three.0.place.head; head = five.0; committer = six.0; merging = seven.0 }) finding seven.2 in
    subst (HasFound w) same (record { on = based w three.0 three.1; clean = merging_clean w five.0 three.0.index four.0 seven.0 seven.1 })
