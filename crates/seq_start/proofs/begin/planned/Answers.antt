use Rattle.seq_start.proofs.Plans.{is_plan}
use Rattle.seq_start.proofs.begin.planned.Goals as goal

pub returns-clause-plan : goal.returns-clause-plan
returns-clause-plan c = rw c.with_left.ensures (is_plan c.args.checked c.args.todo.left c.requires.checked c.requires.left)
