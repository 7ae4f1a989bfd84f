use Rattle.std.proofs.Common.{◌≡◌, ◌-◌, length}
use Rattle.seq_outside.specs.Seen.{HasReadCause}
use Rattle.seq_outside.specs.Seen.Cause.{ByNone}
use Rattle.worktree.proofs.Obstacles.{NoneAbove}
use Rattle.worktree.proofs.obstacle.stands_above.Given as goal

abbrev pub invariant-loop-n : goal.invariant-loop-n
invariant-loop-n g l = record {
  none : g.S.Store.told → NoneAbove (g.S.Store.seen l.fn.store).content l.from l.path l.n;
  same : g.S.Store.told → (g.S.Store.seen l.store).content ≡ (g.S.Store.seen l.fn.store).content;
  cause : HasReadCause g.S.Store.told ByNone (g.S.Store.seen l.fn.store) (g.S.Store.seen l.store);
}

abbrev pub decreases-loop-n : goal.decreases-loop-n
decreases-loop-n g l = length l.path - l.n
