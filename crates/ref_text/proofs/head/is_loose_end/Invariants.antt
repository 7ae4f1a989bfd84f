use Rattle.std.proofs.Common.{◌≡◌, length}
use Rattle.ref_text.specs.ReadHeads.{is_loose_end}
use Rattle.ref_text.proofs.head.is_loose_end.Given as goal

abbrev pub invariant-loop-rest : goal.invariant-loop-rest
invariant-loop-rest l = is_loose_end l.rest ≡ is_loose_end l.end

abbrev pub decreases-loop-rest : goal.decreases-loop-rest
decreases-loop-rest l = length l.rest
