use Rattle.std.proofs.Common.{◌≡◌, ◌≤◌, ◌++◌, ◌∷◌, None, drop}
use Rattle.std.specs.BTreeMap.{get}
use Rattle.std.specs.Cmp.Lexicographic.{slice_cmp}
use Rattle.std.specs.Ordering.{nat_cmp}
use Rattle.todo_plan.specs.Merges.{range_lines}
use Rattle.todo_plan.proofs.merges.range_lines.Given as goal

abbrev pub invariant-loop-id : goal.invariant-loop-id
invariant-loop-id l = record {
  counts : l.count ≤ l.id-index;
  lines_are : l.lines.items ++ range_lines l.graph l.base l.ids (λ other. get (slice_cmp nat_cmp) l.numbers other) l.count l.place (drop l.id-index l.range) ≡ l.fn.onto ∷ range_lines l.graph l.base l.ids (λ other. None) 0 l.base l.range;
}
