use Rattle.std.proofs.Common.{◌≡◌, length}
use Rattle.merge_base.specs.Graphs.{HasPlainSubjects, limit}
use Rattle.seq_outside.specs.Seen.{HasReadCause}
use Rattle.seq_outside.specs.Seen.Cause.{ByNone}
use Rattle.history.specs.Loads.{each, loaded, walked}
use Rattle.history.proofs.loads.load.Given as goal

abbrev pub invariant-loop-rest : goal.invariant-loop-rest
invariant-loop-rest g l = record {
  left : g.S.Store.told
      → each (walked (g.S.Store.seen l.fn.store).content limit) l.graph l.rest ≡ loaded (g.S.Store.seen l.fn.store).content l.fn.tips;
  subjects : HasPlainSubjects l.graph;
  same : g.S.Store.told → (g.S.Store.seen l.store).content ≡ (g.S.Store.seen l.fn.store).content;
  cause : HasReadCause g.S.Store.told ByNone (g.S.Store.seen l.fn.store) (g.S.Store.seen l.store);
}

abbrev pub decreases-loop-rest : goal.decreases-loop-rest
decreases-loop-rest g l = length l.rest
