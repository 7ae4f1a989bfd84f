use Rattle.std.proofs.Common.{sym}
use Rattle.todo_plan.proofs.SquashLaws.{bad_rev}
use Rattle.todo_plan.proofs.squashes.node_of.Goals as goal

pub returns-in-Err : goal.returns-in-Err
returns-in-Err c = sym (bad_rev c.args.graph.now c.args.rev.now (λ long. let bad = c.in-Err.ensures.digit long in (bad.0, bad.2)))
