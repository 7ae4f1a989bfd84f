use Rattle.std.proofs.Common.{length}
use Rattle.seq_outside.specs.Seen.{HasCause}
use Rattle.seq_outside.specs.Seen.Cause.{ByNone}
use Rattle.seq_step.proofs.Blobs.{SamePuts}
use Rattle.seq_step.proofs.switching.put_blobs.Given as goal

abbrev pub invariant-loop-rest : goal.invariant-loop-rest
invariant-loop-rest g l = record {
  puts : g.S.Store.told → SamePuts (g.S.Store.seen l.fn.store).content (g.S.Store.seen l.store).content l.texts l.rest;
  cause : HasCause g.S.Store.told ByNone (g.S.Store.seen l.fn.store) (g.S.Store.seen l.store);
}

abbrev pub decreases-loop-rest : goal.decreases-loop-rest
decreases-loop-rest g l = length l.rest
