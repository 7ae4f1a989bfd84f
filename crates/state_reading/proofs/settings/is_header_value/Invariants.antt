use Rattle.std.proofs.Common.{◌≡◌, length}
use Rattle.object_text.specs.Commits.{is_header_value}
use Rattle.state_reading.proofs.settings.is_header_value.Given as goal

abbrev pub invariant-loop-rest : goal.invariant-loop-rest
invariant-loop-rest l = is_header_value l.rest ≡ is_header_value l.fn.value

abbrev pub decreases-loop-rest : goal.decreases-loop-rest
decreases-loop-rest l = length l.rest
