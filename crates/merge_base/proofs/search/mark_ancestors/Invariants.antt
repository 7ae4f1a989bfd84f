use Rattle.std.proofs.Common.{◌≡◌, ◌≤◌, length}
use Rattle.merge_base.specs.Marks.{mark_older}
use Rattle.merge_base.proofs.search.mark_ancestors.Given as goal

abbrev pub invariant-loop-place : goal.invariant-loop-place
invariant-loop-place l = record {
  within : l.place ≤ length l.graph;
  marks_are : mark_older l.graph l.place l.marks ≡ mark_older l.graph (length l.graph) l.initial.marks;
}

abbrev pub decreases-loop-place : goal.decreases-loop-place
decreases-loop-place l = l.place
