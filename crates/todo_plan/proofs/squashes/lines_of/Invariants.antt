use Rattle.std.proofs.Common.{◌≡◌, ◌++◌, map}
use Rattle.std.specs.Vec.Iter.{into_iter_items}
use Rattle.todo_plan.specs.Segments.{joined}
use Rattle.todo_plan.proofs.squashes.lines_of.Given as goal

abbrev pub invariant-loop-segment : goal.invariant-loop-segment
invariant-loop-segment l =
    l.lines.items ++ map (λ p. p.line) (joined (into_iter_items l.segment-iterator)) ≡ map (λ p. p.line) (joined l.fn.segments.items)
