use Rattle.std.proofs.Common.{ap, ◌∙◌}
use Rattle.todo_plan.specs.Groups.{without_execs}
use Rattle.todo_plan.proofs.ExecLaws.{others_stay}
use Rattle.todo_plan.proofs.Results.{if_ok}
use Rattle.todo_plan.proofs.execs.add_exec.Goals as goal

pub returns-clause-others : goal.returns-clause-others
returns-clause-others c =
    if_ok c.with_execs.result _ _ c.with_execs.ensures (λ all e. ap without_execs e ∙ others_stay c.args.commands.now c.args.lines.items)
