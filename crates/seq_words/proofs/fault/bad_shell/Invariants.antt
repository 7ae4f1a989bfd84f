use Rattle.std.proofs.Common.{◌≡◌, length, map, not}
use Rattle.std.specs.List.{find}
use Rattle.seq_model.specs.Faults.{is_shell_line, shell_command}
use Rattle.seq_words.proofs.fault.bad_shell.Given as goal

abbrev pub invariant-loop-rest : goal.invariant-loop-rest
invariant-loop-rest l =
    find (λ word. not (is_shell_line (shell_command word))) (map (λ word. word.now) l.rest) ≡ find (λ word. not (is_shell_line (shell_command word))) (map (λ word. word.now) l.words)

abbrev pub decreases-loop-rest : goal.decreases-loop-rest
decreases-loop-rest l = length l.rest
