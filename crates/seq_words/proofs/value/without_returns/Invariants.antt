use Rattle.std.proofs.Common.{◌≡◌, length}
use Rattle.seq_model.specs.Faults.{without_returns}
use Rattle.seq_words.proofs.value.without_returns.Given as goal

abbrev pub invariant-loop-rest : goal.invariant-loop-rest
invariant-loop-rest l = without_returns l.rest ≡ without_returns l.text

abbrev pub decreases-loop-rest : goal.decreases-loop-rest
decreases-loop-rest l = length l.rest
