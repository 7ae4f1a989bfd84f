use Rattle.std.proofs.Common.{◌≡◌, length}
use Rattle.state_found.specs.Judged.{first_misfit}
use Rattle.state_found.proofs.judge.first_misfit.Given as goal

abbrev pub invariant-loop-rest : goal.invariant-loop-rest
invariant-loop-rest l = first_misfit l.number l.control l.rest ≡ first_misfit l.number l.control l.fn.found

abbrev pub decreases-loop-rest : goal.decreases-loop-rest
decreases-loop-rest l = length l.rest
