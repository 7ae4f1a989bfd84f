use Rattle.std.proofs.Common.{◌≡◌, length}
use Rattle.state_reading.specs.Lines.{lines_from, lines_of}
use Rattle.state_reading.proofs.lines.lines_of.Given as goal

abbrev pub invariant-loop-rest : goal.invariant-loop-rest
invariant-loop-rest l = lines_from l.lines.items l.line.items l.rest ≡ lines_of l.fn.bytes

abbrev pub decreases-loop-rest : goal.decreases-loop-rest
decreases-loop-rest l = length l.rest
