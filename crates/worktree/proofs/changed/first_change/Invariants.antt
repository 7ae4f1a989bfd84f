use Rattle.std.proofs.Common.{◌≡◌, length}
use Rattle.index_file.specs.Entries.{IsInOrder}
use Rattle.stage_index.specs.Changes.{is_changed}
use Rattle.stage_index.proofs.FirstPassing.{Rest}
use Rattle.seq_outside.specs.Seen.{HasReadCause}
use Rattle.seq_outside.specs.Seen.Cause.{ByNone}
use Rattle.worktree.proofs.changed.first_change.Given as goal

abbrev pub invariant-loop-rest : goal.invariant-loop-rest
invariant-loop-rest g l = record {
  rest : g.S.Store.told → Rest (is_changed (g.S.Store.seen l.fn.store).content) l.index l.rest;
  same : g.S.Store.told → (g.S.Store.seen l.store).content ≡ (g.S.Store.seen l.fn.store).content;
  order : IsInOrder l.rest;
  cause : HasReadCause g.S.Store.told ByNone (g.S.Store.seen l.fn.store) (g.S.Store.seen l.store);
}

abbrev pub decreases-loop-rest : goal.decreases-loop-rest
decreases-loop-rest g l = length l.rest
