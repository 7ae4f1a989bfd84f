use Rattle.std.proofs.Common.{rules, ◌≡◌, ◌<◌, ◌^◌, [], None, length, sym, ap, subst, ◌∙◌}
use Rattle.todo_plan.specs.Labels.{AreLabelsSet}
use Rattle.todo_plan.specs.Merges.{first_fault}
use Rattle.todo_plan.specs.Places.{StandsOn}
use Rattle.todo_plan.specs.Told.{revs_of}
use Rattle.todo_plan.proofs.LabelLaws.{labels_set}
use Rattle.todo_plan.proofs.PlaceLaws.{merges_stand}
use Rattle.todo_plan.proofs.MergeCommits.{merges_about}
use Rattle.todo_plan.proofs.MergeLaws.{blamed}
use Rattle.todo_plan.proofs.merges.plan_merges.Goals as goal

pub returns-in-Some-clause-err : goal.returns-in-Some-clause-err
returns-in-Some-clause-err c = blamed c.args.graph.now c.args.range.now c.in-Some.fault (sym c.in-Some.ensures)

pub returns-in-Ok-clause-commits : goal.returns-in-Ok-clause-commits
returns-in-Ok-clause-commits c =
    ap revs_of c.in-Ok.ensures ∙ merges_about c.args.graph.now c.args.base c.args.range.now c.requires (sym c.first_fault.ensures ∙ c.in_default.is)

pub returns-in-Ok-clause-stands : goal.returns-in-Ok-clause-stands
returns-in-Ok-clause-stands c = λ names reads.
    let graph = c.args.graph.now in
    let small : length c.args.range.now < 2 ^ 64 = search rules in
    let fit : first_fault graph c.args.range.now ≡ None = sym c.first_fault.ensures ∙ c.in_default.is in
    subst (StandsOn graph names c.args.base) (sym c.in-Ok.ensures) (merges_stand graph c.args.base c.args.range.now names reads small c.requires fit)

pub returns-in-Ok-clause-labels : goal.returns-in-Ok-clause-labels
returns-in-Ok-clause-labels c =
    let small : length c.args.range.now < 2 ^ 64 = search rules in
    subst (AreLabelsSet []) (sym c.in-Ok.ensures) (labels_set c.args.graph.now c.args.base c.args.range.now small)
