use Rattle.std.proofs.Common.{Option, ℕ, ap, ◌∙◌}
use Rattle.todo_plan.specs.Autosquash.{or_else, with_start}
use Rattle.todo_plan.proofs.rows.with_front.Goals as goal

pub returns-in-Some : goal.returns-in-Some
returns-in-Some c = ap (λ (v : Option ℕ). or_else v (with_start c.args.rows.now c.args.text.now)) c.in-Some.ensures

pub returns-in-None : goal.returns-in-None
returns-in-None c = c.with_start.ensures ∙ ap (λ (v : Option ℕ). or_else v (with_start c.args.rows.now c.args.text.now)) c.in-None.ensures
