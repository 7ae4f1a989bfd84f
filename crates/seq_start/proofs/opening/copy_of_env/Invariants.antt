use Rattle.std.proofs.Common.{◌≡◌, ◌++◌, length}
use Rattle.seq_start.proofs.opening.copy_of_env.Given as goal

abbrev pub invariant-loop-rest : goal.invariant-loop-rest
invariant-loop-rest l = l.vars.items ++ l.rest ≡ l.env.vars

abbrev pub decreases-loop-rest : goal.decreases-loop-rest
decreases-loop-rest l = length l.rest
