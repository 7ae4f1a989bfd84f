use Rattle.std.proofs.Common.{◌≡◌, length}
use Rattle.seq_outside.specs.Seen.{HasReadCause}
use Rattle.seq_outside.specs.Seen.Cause.{ByNone}
use Rattle.rev_names.specs.Commits.{steps_to}
use Rattle.rev_names.proofs.steps.steps_to.Given as goal

-- the steps that are left lead from here to where all led from the start
abbrev pub invariant-loop-rest : goal.invariant-loop-rest
invariant-loop-rest g l = record {
  left : g.S.Store.told
      → steps_to (g.S.Store.seen l.fn.store).content l.found l.rest ≡ steps_to (g.S.Store.seen l.fn.store).content l.fn.from l.steps;
  same : g.S.Store.told → (g.S.Store.seen l.store).content ≡ (g.S.Store.seen l.fn.store).content;
  cause : HasReadCause g.S.Store.told ByNone (g.S.Store.seen l.fn.store) (g.S.Store.seen l.store);
}

abbrev pub decreases-loop-rest : goal.decreases-loop-rest
decreases-loop-rest g l = length l.rest
