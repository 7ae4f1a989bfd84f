use Rattle.std.proofs.Common.{◌≡◌, length}
use Rattle.std.specs.List.{AllByRecursion}
use Rattle.seq_outside.specs.Seen.{HasCause}
use Rattle.seq_outside.specs.Seen.Cause.{ByNone}
use Rattle.seq_outside.specs.Writes.{HasStorePath, written}
use Rattle.seq_state.specs.Found.{IsRemoval}
use Rattle.seq_state.proofs.clearing.write_all.Given as goal

abbrev pub invariant-loop-rest : goal.invariant-loop-rest
invariant-loop-rest g l = record {
  paths : AllByRecursion HasStorePath l.rest;
  removals : AllByRecursion IsRemoval l.writes → AllByRecursion IsRemoval l.rest;
  made : g.S.Store.told → written (g.S.Store.seen l.store).content l.rest ≡ written (g.S.Store.seen l.fn.store).content l.writes;
  cause : HasCause g.S.Store.told ByNone (g.S.Store.seen l.fn.store) (g.S.Store.seen l.store);
}

abbrev pub decreases-loop-rest : goal.decreases-loop-rest
decreases-loop-rest g l = length l.rest
