use Rattle.std.proofs.Common.{arith, eq-eqb, ◌<◌, length, sym}
use Rattle.stage_index.proofs.Staging.{at_row, differs_at, ends_at, goes_on_at, left_at, none_left}
use Rattle.stage_index.proofs.staged.staged_path.Goals as goal

pub returns-in_default-at : goal.returns-in_default-at
returns-in_default-at c =
    let some : 0 < length c.loop-rest.rest.now = omega arith in
    ends_at c.args.index.now c.args.head.now c.loop-rest.rest.now c.entry-item.result c.loop-rest.n c.loop-rest.invariant some c.entry-item.is (eq-eqb _ 0 c.if-entry-eq0.true) c.in_default-at.ensures

pub returns-in-Some-difference : goal.returns-in-Some-difference
returns-in-Some-difference c =
    let some : 0 < length c.loop-rest.rest.now = omega arith in
    differs_at c.args.index.now c.args.head.now c.loop-rest.rest.now c.entry-item.result c.loop-rest.n (c.in-Some.path.now, c.in-Some.kept) c.in-Some-difference.first.now c.loop-rest.invariant some c.entry-item.is (eq-eqb _ 0 c.if-entry-eq0.true) c.in-Some.ensures (sym c.in-Some-difference.ensures)

pub overflow_add-n : goal.overflow_add-n
overflow_add-n c = let k = at_row c.args.head.now c.loop-rest.n _ c.in-Some.ensures in omega (arith, k, c.len-length.ensures.value)

pub loop-rest-preserved-in_default-difference : goal.loop-rest-preserved-in_default-difference
loop-rest-preserved-in_default-difference c =
    let some : 0 < length c.loop-rest.rest.now = omega arith in
    goes_on_at c.args.index.now c.args.head.now c.loop-rest.rest.now c.entry-item.result c.loop-rest.n (c.in-Some.path.now, c.in-Some.kept) c.loop-rest.invariant some c.entry-item.is (eq-eqb _ 0 c.if-entry-eq0.true) c.in-Some.ensures (sym c.in_default-difference.ensures)

pub returns-in-Some-at : goal.returns-in-Some-at
returns-in-Some-at c =
    left_at c.args.index.now c.args.head.now c.loop-rest.rest.now c.loop-rest.n _ c.loop-rest.invariant (omega arith) c.in-Some-at.ensures

pub returns-in-None : goal.returns-in-None
returns-in-None c =
    none_left c.args.index.now c.args.head.now c.loop-rest.rest.now c.loop-rest.n c.loop-rest.invariant (omega arith) c.in-None.ensures
