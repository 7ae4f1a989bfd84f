use Rattle.std.proofs.Common.{◌≡◌, ◌++◌, length}
use Rattle.state_reading.specs.Settings.{first_line}
use Rattle.state_reading.proofs.settings.first_line.Given as goal

abbrev pub invariant-loop-rest : goal.invariant-loop-rest
invariant-loop-rest l = l.line.items ++ first_line l.rest ≡ first_line l.fn.bytes

abbrev pub decreases-loop-rest : goal.decreases-loop-rest
decreases-loop-rest l = length l.rest
