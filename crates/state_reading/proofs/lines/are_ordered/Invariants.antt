use Rattle.std.proofs.Common.{◌≡◌, length}
use Rattle.state_reading.specs.Lines.{are_ordered}
use Rattle.state_reading.proofs.lines.are_ordered.Given as goal

abbrev pub invariant-loop-rest : goal.invariant-loop-rest
invariant-loop-rest l = are_ordered l.rest ≡ are_ordered l.fn.updates

abbrev pub decreases-loop-rest : goal.decreases-loop-rest
decreases-loop-rest l = length l.rest
