use Rattle.std.proofs.Common.{◌∙◌, ◌∷◌, ◌+◌, drop, sym, ap}
use Rattle.std.proofs.lemmas.List.{take_rest}
use Rattle.std.specs.Str.Lines.{lines}
use Rattle.todo_text.proofs.LineLemmas.{lines_at, lines_last}
use Rattle.todo_text.proofs.todo.first_line.Goals as goal

pub returns-in-Some-clause-first : goal.returns-in-Some-clause-first
returns-in-Some-clause-first c =
    lines_at c.args.text.now c.in-Some.end c.in-Some.ensures
    ∙ ap (λ t. t ∷ lines (drop (c.in-Some.end + 1) c.args.text.now)) (sym c.without_return.ensures)
    ∙ ap (λ t. c.without_return.result.now ∷ lines t) (sym (take_rest c.args.text.now (c.in-Some.end + 1)))

pub returns-in-None-clause-first : goal.returns-in-None-clause-first
returns-in-None-clause-first c = lines_last c.args.text.now c.requires c.in-None.ensures
