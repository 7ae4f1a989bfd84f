use Rattle.std.proofs.Common.{◌≡◌, length}
use Rattle.seq_model.specs.Settings.{unsupported}
use Rattle.start_checks.proofs.settings.unsupported.Given as goal

abbrev pub invariant-loop-rest : goal.invariant-loop-rest
invariant-loop-rest l = unsupported l.rest ≡ unsupported l.settings

abbrev pub decreases-loop-rest : goal.decreases-loop-rest
decreases-loop-rest l = length l.rest
