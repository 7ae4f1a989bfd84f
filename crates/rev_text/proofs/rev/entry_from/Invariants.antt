use Rattle.std.proofs.Common.{◌≡◌, None, length}
use Rattle.rev_text.specs.Revs.{entry_from}
use Rattle.rev_text.proofs.rev.entry_from.Given as goal

abbrev pub invariant-loop-rest : goal.invariant-loop-rest
invariant-loop-rest l = entry_from l.number l.rest ≡ entry_from None l.bytes

abbrev pub decreases-loop-rest : goal.decreases-loop-rest
decreases-loop-rest l = length l.rest
