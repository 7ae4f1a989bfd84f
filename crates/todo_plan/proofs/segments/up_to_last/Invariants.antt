use Rattle.std.proofs.Common.{◌≡◌, ◌≤◌, length, take}
use Rattle.todo_plan.specs.Autosquash.{up_to_last}
use Rattle.todo_plan.proofs.segments.up_to_last.Given as goal

abbrev pub invariant-loop-end : goal.invariant-loop-end
invariant-loop-end l = record {
  within : l.end ≤ length l.placed;
  same : up_to_last l.number (take l.end l.placed) ≡ up_to_last l.number l.placed;
}

abbrev pub decreases-loop-end : goal.decreases-loop-end
decreases-loop-end l = l.end
