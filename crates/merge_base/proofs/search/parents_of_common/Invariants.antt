use Rattle.std.proofs.Common.{◌≡◌, length}
use Rattle.merge_base.specs.Marks.{parents_of_both}
use Rattle.merge_base.proofs.search.parents_of_common.Given as goal

abbrev pub invariant-loop-place : goal.invariant-loop-place
invariant-loop-place l = record {
  length_is : length l.marks.items ≡ length l.graph;
  marks_are : l.marks.items ≡ parents_of_both l.graph l.of_a l.of_b l.place;
}
