use Rattle.std.proofs.Common.{◌≡◌, ◌++◌, length}
use Rattle.stage_index.specs.Stages.{map_of}
use Rattle.stage_index.specs.Switching.{removals, removals_of}
use Rattle.worktree.specs.Own.{AreOwn}
use Rattle.worktree.proofs.writes.push_removals.Given as goal

abbrev pub invariant-loop-rest : goal.invariant-loop-rest
invariant-loop-rest l = record {
  made : l.writes.items ++ removals_of l.from (map_of l.to) l.rest ≡ l.fn.writes.items ++ removals l.from (map_of l.to);
  own : AreOwn l.fn.writes.items → AreOwn l.writes.items;
}

abbrev pub decreases-loop-rest : goal.decreases-loop-rest
decreases-loop-rest l = length l.rest
