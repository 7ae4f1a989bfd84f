use Rattle.std.proofs.Common.{◌≡◌, length}
use Rattle.state_reading.specs.Settings.{behind_line}
use Rattle.state_reading.proofs.settings.behind_line.Given as goal

abbrev pub invariant-loop-rest : goal.invariant-loop-rest
invariant-loop-rest l = behind_line l.rest ≡ behind_line l.fn.bytes

abbrev pub decreases-loop-rest : goal.decreases-loop-rest
decreases-loop-rest l = length l.rest
