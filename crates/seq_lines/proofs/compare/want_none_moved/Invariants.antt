use Rattle.std.proofs.Common.{◌≡◌, length}
use Rattle.reading.specs.Ending.{none_moved}
use Rattle.seq_lines.specs.Refs.{AreEndRefs}
use Rattle.seq_outside.specs.Seen.{HasReadCause}
use Rattle.seq_outside.specs.Seen.Cause.{ByNone}
use Rattle.seq_lines.proofs.compare.want_none_moved.Given as goal

-- what is left gives what all give, over a store that is as before
abbrev pub invariant-loop-rest : goal.invariant-loop-rest
invariant-loop-rest g l = record {
  refs : AreEndRefs l.rest;
  rest : g.S.Store.told → none_moved l.rest (g.S.Store.seen l.fn.store).content ≡ none_moved l.refs (g.S.Store.seen l.fn.store).content;
  same : g.S.Store.told → (g.S.Store.seen l.store).content ≡ (g.S.Store.seen l.fn.store).content;
  cause : HasReadCause g.S.Store.told ByNone (g.S.Store.seen l.fn.store) (g.S.Store.seen l.store);
}

abbrev pub decreases-loop-rest : goal.decreases-loop-rest
decreases-loop-rest g l = length l.rest
