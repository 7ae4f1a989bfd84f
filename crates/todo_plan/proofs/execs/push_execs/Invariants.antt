use Rattle.std.proofs.Common.{◌≡◌, ◌++◌, drop, map}
use Rattle.todo_text.specs.declared.line.Line.TheVariants.{Exec}
use Rattle.todo_plan.proofs.execs.push_execs.Given as goal

abbrev pub invariant-loop-command : goal.invariant-loop-command
invariant-loop-command l = l.lines.items ++ map Exec (drop l.command-index l.commands) ≡ l.initial.lines.items ++ map Exec l.commands
