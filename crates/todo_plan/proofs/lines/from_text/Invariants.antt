use Rattle.std.proofs.Common.{◌≡◌, length}
use Rattle.std.specs.Prelude.{not}
use Rattle.message_text.specs.Lines.{from}
use Rattle.todo_plan.specs.Commits.{is_edge}
use Rattle.todo_plan.proofs.lines.from_text.Given as goal

abbrev pub invariant-loop-rest : goal.invariant-loop-rest
invariant-loop-rest l = from (λ b. not (is_edge b)) l.rest ≡ from (λ b. not (is_edge b)) l.text

abbrev pub decreases-loop-rest : goal.decreases-loop-rest
decreases-loop-rest l = length l.rest
