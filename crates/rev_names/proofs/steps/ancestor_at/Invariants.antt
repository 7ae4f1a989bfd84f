use Rattle.std.proofs.Common.{◌≡◌}
use Rattle.seq_outside.specs.Seen.{HasReadCause}
use Rattle.seq_outside.specs.Seen.Cause.{ByNone}
use Rattle.rev_names.specs.Commits.{ancestor_at}
use Rattle.rev_names.proofs.steps.ancestor_at.Given as goal

-- as many steps are left as lead from here to where they led from the start
abbrev pub invariant-loop-left : goal.invariant-loop-left
invariant-loop-left g l = record {
  left : g.S.Store.told
      → ancestor_at l.left (g.S.Store.seen l.fn.store).content l.found ≡ ancestor_at l.number (g.S.Store.seen l.fn.store).content l.fn.from;
  same : g.S.Store.told → (g.S.Store.seen l.store).content ≡ (g.S.Store.seen l.fn.store).content;
  cause : HasReadCause g.S.Store.told ByNone (g.S.Store.seen l.fn.store) (g.S.Store.seen l.store);
}

abbrev pub decreases-loop-left : goal.decreases-loop-left
decreases-loop-left g l = l.left
