use Rattle.std.proofs.Common.{◌≡◌, ◌++◌, drop, map}
use Rattle.todo_plan.specs.UpdateRefs.{branch_at}
use Rattle.todo_plan.proofs.update_refs.branches_of.Given as goal

abbrev pub invariant-loop-name : goal.invariant-loop-name
invariant-loop-name l = l.branches.items ++ map branch_at (drop l.name-index l.refs) ≡ map branch_at l.refs
