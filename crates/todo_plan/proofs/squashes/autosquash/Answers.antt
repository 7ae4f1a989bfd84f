use Rattle.std.proofs.Common.{List, map, subst, sym}
use Rattle.std.specs.List.Sorted.{IsPermutation}
use Rattle.todo_text.specs.declared.line.Line.{Line}
use Rattle.todo_plan.specs.Autosquash.{as_pick}
use Rattle.todo_plan.proofs.Results.{if_ok}
use Rattle.todo_plan.proofs.SquashLaws.{lines_stay}
use Rattle.todo_plan.proofs.squashes.autosquash.Goals as goal

pub returns-clause-lines : goal.returns-clause-lines
returns-clause-lines c =
    let lines = c.args.lines.items in
    if_ok c.moved.result _ _ c.moved.ensures (λ all e. subst (λ (ls : List Line). IsPermutation (map as_pick lines) (map as_pick ls)) (sym e) (lines_stay c.args.graph.now lines))
