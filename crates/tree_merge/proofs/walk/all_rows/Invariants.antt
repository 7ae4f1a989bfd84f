use Rattle.std.proofs.Common.{◌≡◌, ◌+◌, ◌++◌, length}
use Rattle.tree_merge.specs.Plans.{all_rows}
use Rattle.tree_merge.proofs.Steps.{InOrder}
use Rattle.tree_merge.proofs.walk.all_rows.Given as goal

abbrev pub invariant-loop-path : goal.invariant-loop-path
invariant-loop-path l = record {
  rows : l.rows.items ++ all_rows l.base_left l.ours_left l.theirs_left ≡ all_rows l.base l.ours l.theirs;
  order : InOrder l.base_left l.ours_left l.theirs_left;
}

abbrev pub decreases-loop-path : goal.decreases-loop-path
decreases-loop-path l = length l.base_left + length l.ours_left + length l.theirs_left
