use Rattle.std.proofs.Common.{◌≡◌, ◌++◌, drop}
use Rattle.todo_plan.specs.UpdateRefs.{update_lines}
use Rattle.todo_plan.proofs.update_refs.push_updates.Given as goal

abbrev pub invariant-loop-name : goal.invariant-loop-name
invariant-loop-name l = l.lines.items ++ update_lines (drop l.name-index l.branches) l.revs ≡ l.initial.lines.items ++ update_lines l.branches l.revs
