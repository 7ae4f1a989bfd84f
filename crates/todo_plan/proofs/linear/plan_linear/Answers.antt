use Rattle.std.proofs.Common.{ap, ◌∙◌}
use Rattle.todo_plan.specs.Told.{revs_of}
use Rattle.todo_plan.proofs.LinearLaws.{picks_about}
use Rattle.todo_plan.proofs.Results.{if_ok}
use Rattle.todo_plan.proofs.linear.plan_linear.Goals as goal

pub returns-clause-commits : goal.returns-clause-commits
returns-clause-commits c = if_ok c.picks.result _ _ c.picks.ensures.picks (λ lines e. ap revs_of e ∙ picks_about c.args.graph.now c.args.range.now)
