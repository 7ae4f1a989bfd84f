use Rattle.todo_text.proofs.TextLaws.{todo_respelled}
use Rattle.todo_text.proofs.laws.todo_reads_back.Goals as goal

pub returns : goal.returns
returns c h = todo_respelled c.args.bytes.now c.args.earlier c.args.lines.now h
