use Rattle.std.proofs.Common.{sym, subst}
use Rattle.todo_plan.specs.Told.{AreSpelled}
use Rattle.todo_plan.proofs.LinearLaws.{plain_subject}
use Rattle.todo_plan.proofs.Spelled.{more_spelled}
use Rattle.todo_plan.proofs.linear.push_pick.Goals as goal

pub returns-clause-spelled : goal.returns-clause-spelled
returns-clause-spelled c = λ plain old.
    let node = c.in-Some.node.now in
    let feed = plain_subject c.args.graph.now c.args.id node plain (sym c.in-Some.ensures.found) in
    subst AreSpelled (sym c.in_ok-push.ensures.items) (more_spelled c.args.lines.now.items c.in_ok-pick_of.field-0 old (c.in_ok-pick_of.ensures.spelled feed))
