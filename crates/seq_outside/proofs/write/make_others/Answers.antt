use Rattle.std.proofs.Common.{Result, Ok, Err}
use Rattle.std.specs.Prelude.{OnOk, ⊤}
use Rattle.seq_outside.specs.declared.store.StoreError.{StoreError}
use Rattle.seq_outside.specs.Laws.{draft_paths}
use Rattle.seq_outside.proofs.Slots.{others_part, others_part_free, others_part_front, both_parts}
use Rattle.seq_outside.proofs.write.make_others.Goals as goal

pub make_part-requires : goal.make_part-requires
make_part-requires g c = draft_paths _ c.requires

pub returns-clause-on_the_way : goal.returns-clause-on_the_way
returns-clause-on_the_way g c told w objects = others_part w c.args.slots.now c.requires _ objects _ (c.make_part.ensures.front told)

pub returns-clause-front : goal.returns-clause-front
returns-clause-front g c told w objects = others_part_front w c.args.slots.now c.requires _ objects _ (c.make_part.ensures.front told)

pub returns-clause-free : goal.returns-clause-free
returns-clause-free g c told w objects free blocked =
    c.make_part.ensures.free told (others_part_free w c.args.slots.now c.requires _ objects free) blocked

pub returns-clause-done : goal.returns-clause-done
returns-clause-done g c told w objects =
    on_ok c.make_part.result _ _ (λ is. both_parts w c.args.slots.now c.requires _ objects _ is)
    (c.make_part.ensures.done told)
  where
    on_ok : (r : Result ⊤ StoreError) (P Q : Type 0) → (P → Q) → OnOk r P → OnOk r Q
    on_ok (Ok x) P Q f p = f p
    on_ok (Err e) P Q f p = tt
