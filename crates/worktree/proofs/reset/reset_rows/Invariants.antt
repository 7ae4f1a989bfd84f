use Rattle.std.proofs.Common.{◌≡◌, Ok, length}
use Rattle.std.specs.Prelude.{map}
use Rattle.stage_index.specs.Stages.{row_of}
use Rattle.worktree.specs.Own.{GitStays}
use Rattle.worktree.specs.Resets.{rows_readable}
use Rattle.seq_outside.specs.Seen.{HasCause}
use Rattle.seq_outside.specs.Seen.Cause.{ByNone}
use Rattle.worktree.proofs.ResetFronts.{ResetSoFar}
use Rattle.worktree.proofs.Resetting.{SameReset}
use Rattle.worktree.proofs.reset.reset_rows.Given as goal

abbrev pub invariant-loop-rest : goal.invariant-loop-rest
invariant-loop-rest g l = record {
  made : g.S.Store.told → SameReset (g.S.Store.seen l.fn.store).content (g.S.Store.seen l.store).content l.index l.rest;
  git : g.S.Store.told → GitStays (g.S.Store.seen l.fn.store).content (g.S.Store.seen l.store).content;
  left : g.S.Store.told → rows_readable (g.S.Store.seen l.fn.store).content (map row_of l.rest) ≡ Ok tt;
  so_far : g.S.Store.told → ResetSoFar (g.S.Store.seen l.fn.store).content (g.S.Store.seen l.store).content l.index l.rest;
  cause : HasCause g.S.Store.told ByNone (g.S.Store.seen l.fn.store) (g.S.Store.seen l.store);
}

abbrev pub decreases-loop-rest : goal.decreases-loop-rest
decreases-loop-rest g l = length l.rest
