use Rattle.std.proofs.Common.{◌≡◌, arith, false, sym, true, ◌∙◌}
use Rattle.todo_plan.specs.Autosquash.{belongs}
use Rattle.todo_plan.proofs.SquashLaws.{last_before, last_found}
use Rattle.todo_plan.proofs.segments.up_to_last.Goals as goal

pub returns-then-belongs-clause-count : goal.returns-then-belongs-clause-count
returns-then-belongs-clause-count c =
    let on : belongs c.args.number c.index-placed-end.result ≡ true = sym c.belongs.ensures ∙ c.if-belongs.true in
    sym (last_found c.args.number c.args.placed.now c.loop-end.end c.index-placed-end.result c.loop-end-test.true c.loop-end.invariant.within c.index-placed-end.is on) ∙ c.loop-end.invariant.same

pub loop-end-preserved : goal.loop-end-preserved
loop-end-preserved c =
    let off : belongs c.args.number c.index-placed-end.result ≡ false = sym c.belongs.ensures ∙ c.if-belongs.false in
    record {
      within = omega arith;
      same =
          sym (last_before c.args.number c.args.placed.now c.loop-end.end c.index-placed-end.result c.loop-end-test.true c.loop-end.invariant.within c.index-placed-end.is off)
          ∙ c.loop-end.invariant.same;
    }
