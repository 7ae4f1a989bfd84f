use Rattle.std.proofs.Common.{length}
use Rattle.std.specs.List.{AllByRecursion}
use Rattle.seq_outside.specs.Seen.{HasCause}
use Rattle.seq_outside.specs.Seen.Cause.{ByNone}
use Rattle.seq_outside.specs.Slots.{all_chosen, kept}
use Rattle.seq_outside.specs.Writes.{HasStorePath}
use Rattle.seq_outside.proofs.Written.{Way}
use Rattle.seq_outside.proofs.write.make_part.Given as goal

abbrev pub invariant-loop-rest : goal.invariant-loop-rest
invariant-loop-rest g l = record {
  way : g.S.Store.told
      → Way (g.S.Store.seen l.fn.store).content (g.S.Store.seen l.store).content (all_chosen l.of_objects l.slots) (all_chosen l.of_objects l.rest);
  paths : AllByRecursion HasStorePath (kept l.rest);
  cause : HasCause g.S.Store.told ByNone (g.S.Store.seen l.fn.store) (g.S.Store.seen l.store);
}

abbrev pub decreases-loop-rest : goal.decreases-loop-rest
decreases-loop-rest g l = length l.rest
