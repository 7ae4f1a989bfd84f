use Rattle.std.proofs.Common.{◌≡◌, ◌++◌, map}
use Rattle.std.specs.Vec.Iter.{into_iter_items}
use Rattle.todo_plan.proofs.squashes.push_lines.Given as goal

abbrev pub invariant-loop-one : goal.invariant-loop-one
invariant-loop-one l = l.lines.items ++ map (λ p. p.line) (into_iter_items l.one-iterator) ≡ l.initial.lines.items ++ map (λ p. p.line) l.fn.segment
