-- HEAD is at the new commit.
use Rattle.std.proofs.Common.{◌≡◌, ◌≢◌, Option, Some, None, Ok, inl, inr, refl, ap, subst, ◌∙◌}
use Rattle.std.specs.Prelude.{Result}
use Rattle.std.specs.FinMap as map
use Rattle.std.specs.Str.{bytes_eq}
use Rattle.std.proofs.lemmas.Bool.{cases_Bool}
use Rattle.std.proofs.lemmas.Slice.Eq.{bytes_eq-Decides}
use Rattle.ref_store.specs.Moves.{LeavesIfOk, head_moved, moved_name}
use Rattle.ref_store.specs.Values.{head_at, value_at}
use Rattle.ref_store.proofs.Keeping.{head_same}
use Rattle.ref_store.proofs.Moving.{moved_leaves}
use Rattle.ref_store.proofs.Named.{head_gives, value_from}
use Rattle.ref_text.specs.declared.head.Head.{Head}
use Rattle.ref_text.specs.declared.head.Head.TheVariants.{Branch, Detached}
use Rattle.ref_text.specs.declared.log.LogLine.{LogLine}
use Rattle.ref_text.specs.Heads.{IsHeadValue}
use Rattle.ref_text.specs.Refs.{RefAt, head_name, move_head, ref_path}
use Rattle.seq_base.specs.Ids.{IsId}
use Rattle.seq_base.specs.Words.{Id, Name, Text}
use Rattle.seq_base.specs.World.{World}
use Rattle.seq_outside.specs.declared.lack.Lack.{Lack}

some_there : (o : Option Text) (text : Text) → o ≡ Some text → o ≢ None
some_there o text e n = absurd cc

-- the value of HEAD, where its own file has one
own_value : (v : World) (name : Name) (id : Id) (text : Text) → name ≡ head_name → RefAt v name (Some id) → map.get v (ref_path name) ≡ Some text
    → value_at v head_name ≡ Ok (Some id)
own_value v name id text same value file =
    value_from v head_name (Some id) (λ _. some_there (map.get v (ref_path head_name)) text (subst (λ (n : Name). map.get v (ref_path n) ≡ Some text) same file)) (subst (λ (n : Name). RefAt v n (Some id)) same value)

left_is : (r : Result (Unit {0}) Lack × World) (aim v : World) → LeavesIfOk r aim → r ≡ (Ok tt, v) → v ≡ aim
left_is r aim v leaves is = subst (λ (s : Result (Unit {0}) Lack × World). LeavesIfOk s aim) is leaves

pub head_has : (on : Head) (w between v : World) (id : Id) (line : LogLine) (text : Text) → IsHeadValue on → IsId id → head_at w ≡ Ok on
    → map.get between (ref_path head_name) ≡ map.get w (ref_path head_name)
    → head_moved on id line between ≡ (Ok tt, v) → RefAt v (moved_name on) (Some id) → map.get v (ref_path (moved_name on)) ≡ Some text → value_at v head_name ≡ Ok (Some id)
head_has (Detached old) w between v id line text is bytes found same moves value file = own_value v head_name id text refl value file
head_has (Branch name) w between v id line text is bytes found same moves value file = elim (cases_Bool (bytes_eq name head_name)) [
  | inl here ↦ own_value v name id text ((bytes_eq-Decides name head_name).0 here) value file
  | inr ne ↦
      let after = left_is (head_moved (Branch name) id line between) (move_head between (Branch name) id line) v (moved_leaves between (Branch name) id line) moves in
      ap (λ (x : World). value_at x head_name) after ∙ head_gives between name id line is ne bytes (head_same w between same ∙ found)
]
