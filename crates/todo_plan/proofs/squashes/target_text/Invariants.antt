use Rattle.std.proofs.Common.{◌≡◌, length}
use Rattle.todo_plan.specs.Autosquash.{target_text}
use Rattle.todo_plan.proofs.squashes.target_text.Given as goal

abbrev pub invariant-loop-kind : goal.invariant-loop-kind
invariant-loop-kind l = target_text l.rest ≡ target_text l.fn.subject

abbrev pub decreases-loop-kind : goal.decreases-loop-kind
decreases-loop-kind l = length l.rest
