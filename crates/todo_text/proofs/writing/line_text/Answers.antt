use Rattle.std.proofs.Common.{◌∙◌}
use Rattle.todo_text.proofs.TextLaws.{written_alone}
use Rattle.todo_text.proofs.writing.line_text.Goals as goal

pub returns-clause-spells : goal.returns-clause-spells
returns-clause-spells c =
    written_alone c.args.line.now c.in_ok-text.text.items c.push_arguments.new.text.items c.push_line_end.new.text.items c.requires
    (c.in_ok-text.ensures.items ∙ c.command_word.ensures) c.in_ok-push_arguments.ensures c.in_ok-push_line_end.ensures
