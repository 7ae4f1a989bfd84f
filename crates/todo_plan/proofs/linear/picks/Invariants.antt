use Rattle.std.proofs.Common.{◌≡◌, ◌++◌, drop}
use Rattle.todo_plan.specs.Linear.{picks}
use Rattle.merge_base.specs.Graphs.{HasPlainSubjects}
use Rattle.todo_plan.specs.Told.{AreSpelled}
use Rattle.todo_plan.proofs.linear.picks.Given as goal

abbrev pub invariant-loop-id : goal.invariant-loop-id
invariant-loop-id l = record {
  picks_are : l.lines.items ++ picks l.graph (drop l.id-index l.range) ≡ picks l.graph l.range;
  spelled : HasPlainSubjects l.graph → AreSpelled l.lines.items;
}
