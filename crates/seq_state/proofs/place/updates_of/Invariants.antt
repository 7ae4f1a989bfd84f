use Rattle.std.proofs.Common.{◌≡◌, ◌++◌, length}
use Rattle.seq_state.proofs.place.updates_of.Given as goal

abbrev pub invariant-loop-rest : goal.invariant-loop-rest
invariant-loop-rest l = l.copy.items ++ l.rest ≡ l.updates

abbrev pub decreases-loop-rest : goal.decreases-loop-rest
decreases-loop-rest l = length l.rest
