use Rattle.std.proofs.Common.{◌≡◌, length}
use Rattle.state_text.specs.Stops.{has_file}
use Rattle.state_text.proofs.stop.has_file.Given as goal

abbrev pub invariant-loop-rest : goal.invariant-loop-rest
invariant-loop-rest l = has_file l.rest l.path ≡ has_file l.fn.files l.path

abbrev pub decreases-loop-rest : goal.decreases-loop-rest
decreases-loop-rest l = length l.rest
