use Rattle.std.proofs.Common.{◌≡◌, ◌++◌, length}
use Rattle.stage_index.specs.Conflicts.{conflict_removals, left_out_of}
use Rattle.worktree.specs.Own.{AreOwn}
use Rattle.worktree.proofs.conflict_writes.push_all_left_out.Given as goal

abbrev pub invariant-loop-rest : goal.invariant-loop-rest
invariant-loop-rest l = record {
  made : l.writes.items ++ left_out_of l.from l.index l.files l.rest ≡ l.fn.writes.items ++ conflict_removals l.from l.index l.files;
  own : AreOwn l.fn.writes.items → AreOwn l.writes.items;
}

abbrev pub decreases-loop-rest : goal.decreases-loop-rest
decreases-loop-rest l = length l.rest
