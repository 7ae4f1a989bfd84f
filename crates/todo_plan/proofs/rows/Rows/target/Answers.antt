use Rattle.std.proofs.Common.{◌≡◌, List, Some, None, ap, sym, ◌∙◌}
use Rattle.todo_plan.specs.Autosquash.{Row, or_else, target, with_digits, with_start, with_subject}
use Rattle.todo_plan.proofs.RowLaws.{by_front, by_subject, found_within}
use Rattle.todo_plan.proofs.rows.Rows.target.Goals as goal

pub returns-in-Some : goal.returns-in-Some
returns-in-Some c =
    let rows = c.args.self.now in
    let text = c.args.text.now in
    let is : Some c.in-Some.number ≡ target rows text =
    sym (by_subject rows text c.in-Some.number (ap (with_subject rows) (sym c.in_ok-key.ensures) ∙ sym c.in-Some.ensures))
    in
    record { found = is; within = found_within rows text (Some c.in-Some.number) is }

pub returns : goal.returns
returns c =
    let text = c.args.text.now in
    let none : with_subject c.args.self.now text ≡ None = ap (with_subject c.args.self.now) (sym c.in_ok-key.ensures) ∙ sym c.in-None.ensures in
    let is : c.with_front.result ≡ target c.args.self.now text =
    c.with_front.ensures ∙ ap (λ (rows : List Row). or_else (with_digits rows text) (with_start rows text)) (c.deref.ensures.value ∙ c.self.view_is)
    ∙ sym (by_front c.args.self.now text none)
    in
    record { found = is; within = found_within c.args.self.now text c.with_front.result is }
