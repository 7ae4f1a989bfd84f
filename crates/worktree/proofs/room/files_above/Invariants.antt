use Rattle.std.proofs.Common.{◌≡◌, ◌≤◌, ◌-◌, length}
use Rattle.std.specs.List.{AllByRecursion}
use Rattle.seq_base.specs.StorePaths.{IsStorePath}
use Rattle.seq_outside.specs.Seen.{HasReadCause}
use Rattle.seq_outside.specs.Seen.Cause.{ByNone}
use Rattle.worktree.specs.Resets.{files_above}
use Rattle.worktree.proofs.room.files_above.Given as goal

abbrev pub invariant-loop-n : goal.invariant-loop-n
invariant-loop-n g l = record {
  found : g.S.Store.told → l.files.items ≡ files_above (g.S.Store.seen l.fn.store).content l.path l.n;
  paths : AllByRecursion IsStorePath l.files.items;
  within : l.n ≤ length l.path;
  same : g.S.Store.told → (g.S.Store.seen l.store).content ≡ (g.S.Store.seen l.fn.store).content;
  cause : HasReadCause g.S.Store.told ByNone (g.S.Store.seen l.fn.store) (g.S.Store.seen l.store);
}

abbrev pub decreases-loop-n : goal.decreases-loop-n
decreases-loop-n g l = length l.path - l.n
