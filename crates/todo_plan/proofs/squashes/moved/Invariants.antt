use Rattle.std.proofs.Common.{◌≡◌, length}
use Rattle.std.specs.Vec.Iter.{into_iter_items}
use Rattle.todo_plan.specs.Autosquash.{autosquashed, squashed}
use Rattle.todo_plan.specs.Segments.{AreSegments, joined}
use Rattle.todo_plan.proofs.squashes.moved.Given as goal

abbrev pub invariant-loop-line : goal.invariant-loop-line
invariant-loop-line l = record {
  segments : AreSegments l.places.segments.items l.places.homes.items;
  rows : length l.rows ≡ length l.places.homes.items;
  same : squashed l.graph l.rows (joined l.places.segments.items) (into_iter_items l.line-iterator) ≡ autosquashed l.graph l.fn.lines.items;
}
