use Rattle.std.proofs.Common.{◌≡◌, [], length}
use Rattle.seq_outside.specs.Seen.{HasReadCause}
use Rattle.seq_outside.specs.Seen.Cause.{ByNone}
use Rattle.content_merge.specs.Jobs.{with_jobs}
use Rattle.content_merge.proofs.jobs.read_jobs.Given as goal

abbrev pub invariant-loop-rest : goal.invariant-loop-rest
invariant-loop-rest g l = record {
  rest : g.S.Store.told
      → with_jobs (g.S.Store.seen l.fn.store).content l.jobs.items l.rest l.driven ≡ with_jobs (g.S.Store.seen l.fn.store).content [] l.rows l.drivers;
  same : g.S.Store.told → (g.S.Store.seen l.store).content ≡ (g.S.Store.seen l.fn.store).content;
  cause : HasReadCause g.S.Store.told ByNone (g.S.Store.seen l.fn.store) (g.S.Store.seen l.store);
}

abbrev pub decreases-loop-rest : goal.decreases-loop-rest
decreases-loop-rest g l = length l.rest
