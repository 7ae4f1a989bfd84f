use Rattle.std.proofs.Common.{◌≡◌, [], None, length}
use Rattle.rev_text.specs.Revs.{steps_from}
use Rattle.rev_text.proofs.rev.steps_of.Given as goal

abbrev pub invariant-loop-rest : goal.invariant-loop-rest
invariant-loop-rest l = steps_from l.steps.items l.begun l.rest ≡ steps_from [] None l.bytes

abbrev pub decreases-loop-rest : goal.decreases-loop-rest
decreases-loop-rest l = length l.rest
