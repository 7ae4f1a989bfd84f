use Rattle.std.proofs.Common.{◌≡◌, drop}
use Rattle.todo_plan.specs.Merges.{first_fault}
use Rattle.todo_plan.proofs.merges.first_fault.Given as goal

abbrev pub invariant-loop-id : goal.invariant-loop-id
invariant-loop-id l = first_fault l.graph (drop l.id-index l.range) ≡ first_fault l.graph l.range
