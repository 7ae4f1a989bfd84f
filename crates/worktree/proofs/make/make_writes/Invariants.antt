use Rattle.std.proofs.Common.{◌≡◌, length}
use Rattle.std.specs.List.{AllByRecursion}
use Rattle.std.specs.Vec.Iter.{into_iter_items, into_iter_len}
use Rattle.seq_outside.specs.Seen.{HasCause}
use Rattle.seq_outside.specs.Seen.Cause.{ByNone}
use Rattle.seq_outside.specs.Writes.{HasStorePath}
use Rattle.worktree.proofs.Making.{LeftOver}
use Rattle.worktree.proofs.make.make_writes.Given as goal

abbrev pub invariant-loop-write : goal.invariant-loop-write
invariant-loop-write g l = record {
  left : g.S.Store.told
      → LeftOver (g.S.Store.seen l.fn.store).content (g.S.Store.seen l.store).content l.fn.writes.items (into_iter_items l.write-iterator);
  paths : AllByRecursion HasStorePath (into_iter_items l.write-iterator);
  length_is : into_iter_len l.write-iterator ≡ length (into_iter_items l.write-iterator);
  cause : HasCause g.S.Store.told ByNone (g.S.Store.seen l.fn.store) (g.S.Store.seen l.store);
}
