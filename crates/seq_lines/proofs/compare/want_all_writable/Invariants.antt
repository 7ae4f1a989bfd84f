use Rattle.std.proofs.Common.{◌≡◌, length}
use Rattle.seq_lines.specs.Refs.{AreEndRefs}
use Rattle.seq_lines.proofs.Compared.{writable_among}
use Rattle.seq_outside.specs.Seen.{HasReadCause}
use Rattle.seq_outside.specs.Seen.Cause.{ByNone}
use Rattle.seq_lines.proofs.compare.want_all_writable.Given as goal

-- the first of what is left that cannot be written is the first of all, over a store that is as before
abbrev pub invariant-loop-rest : goal.invariant-loop-rest
invariant-loop-rest g l = record {
  refs : AreEndRefs l.rest;
  rest : g.S.Store.told
      → writable_among (g.S.Store.seen l.fn.store).content l.refs l.rest ≡ writable_among (g.S.Store.seen l.fn.store).content l.refs l.refs;
  same : g.S.Store.told → (g.S.Store.seen l.store).content ≡ (g.S.Store.seen l.fn.store).content;
  cause : HasReadCause g.S.Store.told ByNone (g.S.Store.seen l.fn.store) (g.S.Store.seen l.store);
}

abbrev pub decreases-loop-rest : goal.decreases-loop-rest
decreases-loop-rest g l = length l.rest
