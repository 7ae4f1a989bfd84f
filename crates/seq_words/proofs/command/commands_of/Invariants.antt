use Rattle.std.proofs.Common.{◌≡◌, ◌++◌, length, map}
use Rattle.seq_model.specs.Faults.{shell_command}
use Rattle.seq_words.proofs.command.commands_of.Given as goal

abbrev pub invariant-loop-rest : goal.invariant-loop-rest
invariant-loop-rest l = l.values.items ++ map shell_command (map (λ value. value.now) l.rest) ≡ map shell_command (map (λ value. value.now) l.texts)

abbrev pub decreases-loop-rest : goal.decreases-loop-rest
decreases-loop-rest l = length l.rest
