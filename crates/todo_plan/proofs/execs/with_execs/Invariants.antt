use Rattle.std.proofs.Common.{◌≡◌, ◌++◌, map}
use Rattle.std.specs.Vec.Iter.{into_iter_items}
use Rattle.todo_text.specs.declared.line.Line.TheVariants.{Exec}
use Rattle.todo_plan.specs.Groups.{behind_groups, with_execs}
use Rattle.todo_plan.proofs.execs.with_execs.Given as goal

abbrev pub invariant-loop-line : goal.invariant-loop-line
invariant-loop-line l =
    l.all.items ++ behind_groups (map Exec l.commands) l.inside (into_iter_items l.line-iterator) ≡ with_execs l.commands l.fn.lines.items
