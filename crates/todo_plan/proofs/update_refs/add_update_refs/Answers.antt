use Rattle.std.proofs.Common.{List, [], ap, false, subst, ◌∙◌}
use Rattle.std.specs.List.Sorted.{IsPermutation}
use Rattle.todo_plan.specs.UpdateRefs.{Branch, behind_each, without_updates}
use Rattle.todo_plan.proofs.Results.{if_ok}
use Rattle.todo_plan.proofs.UpdateLaws.{others_stay}
use Rattle.todo_plan.proofs.update_refs.add_update_refs.Goals as goal

pub returns-clause-todo : goal.returns-clause-todo
returns-clause-todo c =
    let branches = c.in_ok-branches.branches.items in
    if_ok c.with_updates.result _ _ c.with_updates.ensures
    (λ all e. record {
      branches = branches;
      same = subst (λ (bs : List Branch). IsPermutation bs branches) c.in_ok-branches_of.ensures c.in_ok-branches.ensures.same;
      order = c.in_ok-branches.ensures.order;
      is = e ∙ ap (λ (bs : List Branch). behind_each bs false [] c.args.lines.items) c.deref.ensures.value;
    })

pub returns-clause-others : goal.returns-clause-others
returns-clause-others c =
    if_ok c.with_updates.result _ _ c.with_updates.ensures (λ all e. ap without_updates e ∙ others_stay c.deref.result.now c.args.lines.items)
