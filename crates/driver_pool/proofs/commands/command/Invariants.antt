use Rattle.std.proofs.Common.{◌≡◌, ◌++◌, length}
use Rattle.driver_pool.specs.Commands.{command_of, filled}
use Rattle.driver_pool.proofs.commands.command.Given as goal

abbrev pub invariant-loop-rest : goal.invariant-loop-rest
invariant-loop-rest l = l.text.items ++ filled l.is_behind l.rest l.path l.number ≡ command_of l.template l.path l.number

abbrev pub decreases-loop-rest : goal.decreases-loop-rest
decreases-loop-rest l = length l.rest
