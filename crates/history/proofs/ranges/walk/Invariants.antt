use Rattle.std.proofs.Common.{◌≡◌, None, length}
use Rattle.merge_base.specs.Graphs.{first_missing}
use Rattle.history.proofs.Ranging.{HasMetTo}
use Rattle.history.proofs.ranges.walk.Given as goal

abbrev pub invariant-loop-rest : goal.invariant-loop-rest
invariant-loop-rest l = record {
  length_is : length l.marks.items ≡ length l.graph;
  there : first_missing l.graph l.rest ≡ None;
  met : HasMetTo l.graph l.fn.tips l.rest l.fn.marks.items l.ids.items l.marks.items;
}

abbrev pub decreases-loop-rest : goal.decreases-loop-rest
decreases-loop-rest l = length l.rest
