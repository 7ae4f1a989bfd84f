use Rattle.std.proofs.Common.{rules, arith, ◌≡◌, ◌<◌, length}
use Rattle.seq_outside.specs.declared.store.StoreError.TheVariants.{Blocked}
use Rattle.seq_outside.proofs.Slots.{all_chosen_made, slot_free, slot_front, slot_made, slot_path}
use Rattle.seq_outside.proofs.write.make_part.Goals as goal

pub returns-in_err-make_chosen-clause-front : goal.returns-in_err-make_chosen-clause-front
returns-in_err-make_chosen-clause-front g c told =
    let some : 0 < length c.loop-rest.rest.now = omega arith in
    slot_front c.args.of_objects _ _ _ _ c.loop-rest.rest.now c.slot-item.result (c.loop-rest.invariant.way told) some c.slot-item.is _ (c.in_err-make_chosen.ensures.leaves told)

pub loop-rest-preserved : goal.loop-rest-preserved
loop-rest-preserved g c =
    let some : 0 < length c.loop-rest.rest.now = omega arith in
    record {
      way =
          λ told. slot_made c.args.of_objects _ _ _ _ c.loop-rest.rest.now c.slot-item.result (c.loop-rest.invariant.way told) some c.slot-item.is _ (c.in_ok-make_chosen.ensures.leaves told);
      paths = (slot_path c.loop-rest.rest.now c.slot-item.result some c.slot-item.is c.loop-rest.invariant.paths).1;
      cause = search rules;
    }

pub returns-in_err-make_chosen-clause-free : goal.returns-in_err-make_chosen-clause-free
returns-in_err-make_chosen-clause-free g c told free blocked =
    let some : 0 < length c.loop-rest.rest.now = omega arith in
    let is : c.in_err-make_chosen.field-0.0 ≡ Blocked = search rules in
    slot_free c.args.of_objects _ _ _ _ c.loop-rest.rest.now c.slot-item.result (c.loop-rest.invariant.way told) some c.slot-item.is _ is (c.in_err-make_chosen.ensures.leaves told) free

pub returns-clause-done : goal.returns-clause-done
returns-clause-done g c told = all_chosen_made c.args.of_objects _ _ _ c.loop-rest.rest.now c.in_default.len_below (c.loop-rest.invariant.way told)
