use Rattle.std.proofs.Common.{◌≡◌, ◌+◌, ◌++◌, length}
use Rattle.tree_merge.specs.Results.{result_of}
use Rattle.tree_merge.proofs.Steps.{InOrder}
use Rattle.tree_merge.proofs.merged.taken_entries.Given as goal

abbrev pub invariant-loop-path : goal.invariant-loop-path
invariant-loop-path l = record {
  entries : l.entries.items ++ result_of l.base_left l.ours_left l.theirs_left ≡ result_of l.base l.ours l.theirs;
  order : InOrder l.base_left l.ours_left l.theirs_left;
}

abbrev pub decreases-loop-path : goal.decreases-loop-path
decreases-loop-path l = length l.base_left + length l.ours_left + length l.theirs_left
