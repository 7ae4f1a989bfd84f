use Rattle.std.proofs.Common.{◌≡◌, length}
use Rattle.state_reading.specs.Recalls.{bytes_at}
use Rattle.state_reading.proofs.found.bytes_at.Given as goal

abbrev pub invariant-loop-rest : goal.invariant-loop-rest
invariant-loop-rest l = bytes_at l.rest l.file ≡ bytes_at l.fn.found l.file

abbrev pub decreases-loop-rest : goal.decreases-loop-rest
decreases-loop-rest l = length l.rest
