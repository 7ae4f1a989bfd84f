use Rattle.std.proofs.Common.{◌≡◌, length}
use Rattle.seq_model.specs.Changes.{Changes}
use Rattle.seq_outside.specs.Seen.{HasCause}
use Rattle.seq_outside.specs.Seen.Cause.{ByNone}
use Rattle.seq_plumb.specs.Removing.{files_removed}
use Rattle.seq_plumb.proofs.removing.remove_files.Given as goal

-- the rest, from here, comes to what all come to from the start
abbrev pub invariant-loop-rest : goal.invariant-loop-rest
invariant-loop-rest g l = record {
  turns : g.S.Store.told
      → files_removed l.index l.rest (g.S.Store.seen l.store).content ≡ files_removed l.index l.paths (g.S.Store.seen l.fn.store).content;
  owns : g.S.Store.told → Changes (g.S.Store.seen l.fn.store).content (g.S.Store.seen l.store).content;
  cause : HasCause g.S.Store.told ByNone (g.S.Store.seen l.fn.store) (g.S.Store.seen l.store);
}

abbrev pub decreases-loop-rest : goal.decreases-loop-rest
decreases-loop-rest g l = length l.rest
