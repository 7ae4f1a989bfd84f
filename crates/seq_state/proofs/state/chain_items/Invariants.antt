use Rattle.std.proofs.Common.{◌≡◌, length}
use Rattle.seq_outside.specs.Seen.{HasReadCause}
use Rattle.seq_outside.specs.Seen.Cause.{ByNone}
use Rattle.seq_state.proofs.Messages.{SameItems, SameKinds}
use Rattle.seq_state.proofs.state.chain_items.Given as goal

abbrev pub invariant-loop-rest : goal.invariant-loop-rest
invariant-loop-rest g l = record {
  same : g.S.Store.told → (g.S.Store.seen l.store).content ≡ (g.S.Store.seen l.fn.store).content;
  gives : g.S.Store.told → SameItems (g.S.Store.seen l.fn.store).content l.chain l.items.items l.rest;
  kinds : SameKinds l.chain l.items.items l.rest;
  cause : HasReadCause g.S.Store.told ByNone (g.S.Store.seen l.fn.store) (g.S.Store.seen l.store);
}

abbrev pub decreases-loop-rest : goal.decreases-loop-rest
decreases-loop-rest g l = length l.rest
