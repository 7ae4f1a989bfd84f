use Rattle.std.proofs.Common.{◌≡◌, ◌++◌, length}
use Rattle.state_reading.specs.Lines.{updates_at}
use Rattle.state_reading.proofs.lines.updates_in.Given as goal

abbrev pub invariant-loop-rest : goal.invariant-loop-rest
invariant-loop-rest l = l.updates.items ++ updates_at l.rest ≡ updates_at l.fn.lines

abbrev pub decreases-loop-rest : goal.decreases-loop-rest
decreases-loop-rest l = length l.rest
