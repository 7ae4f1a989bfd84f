use Rattle.std.proofs.Common.{◌≡◌, ◌++◌, drop}
use Rattle.todo_plan.specs.Merges.{named}
use Rattle.todo_plan.proofs.merges.named.Given as goal

abbrev pub invariant-loop-id : goal.invariant-loop-id
invariant-loop-id l = l.ids.items ++ named l.graph l.place (drop l.id-index l.range) ≡ named l.graph l.fn.base l.range
