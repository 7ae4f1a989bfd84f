use Rattle.std.proofs.Common.{◌≡◌, ◌++◌, ◌∷◌, [], length}
use Rattle.std.specs.List.{flat_map}
use Rattle.driver_pool.specs.Commands.{quoted, quoted_byte}
use Rattle.driver_pool.proofs.commands.push_quoted.Given as goal

abbrev pub invariant-loop-rest : goal.invariant-loop-rest
invariant-loop-rest l = l.text.items ++ (flat_map quoted_byte l.rest ++ 39 ∷ []) ≡ l.fn.text.items ++ quoted l.path

abbrev pub decreases-loop-rest : goal.decreases-loop-rest
decreases-loop-rest l = length l.rest
