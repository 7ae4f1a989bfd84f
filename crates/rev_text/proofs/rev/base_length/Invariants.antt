use Rattle.std.proofs.Common.{◌≡◌, ◌+◌, length}
use Rattle.rev_text.specs.Revs.{base_length}
use Rattle.rev_text.proofs.rev.base_length.Given as goal

abbrev pub invariant-loop-rest : goal.invariant-loop-rest
invariant-loop-rest l = (l.length + base_length l.rest ≡ base_length l.word) × (l.length + length l.rest ≡ length l.word)

abbrev pub decreases-loop-rest : goal.decreases-loop-rest
decreases-loop-rest l = length l.rest
