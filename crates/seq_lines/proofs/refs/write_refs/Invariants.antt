use Rattle.std.proofs.Common.{◌≡◌, length}
use Rattle.reading.specs.Ending.{refs_written}
use Rattle.seq_lines.specs.Refs.{AreEndRefs}
use Rattle.seq_outside.specs.Seen.{HasCause}
use Rattle.seq_outside.specs.Seen.Cause.{ByNone}
use Rattle.seq_lines.proofs.refs.write_refs.Given as goal

-- what is left to write comes to what there was
abbrev pub invariant-loop-rest : goal.invariant-loop-rest
invariant-loop-rest g l = record {
  refs : AreEndRefs l.rest;
  written : g.S.Store.told
      → refs_written l.setting l.rest (g.S.Store.seen l.store).content ≡ refs_written l.setting l.refs (g.S.Store.seen l.fn.store).content;
  cause : HasCause g.S.Store.told ByNone (g.S.Store.seen l.fn.store) (g.S.Store.seen l.store);
}

abbrev pub decreases-loop-rest : goal.decreases-loop-rest
decreases-loop-rest g l = length l.rest
