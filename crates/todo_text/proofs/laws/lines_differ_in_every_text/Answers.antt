use Rattle.todo_text.proofs.LineLaws.{line_one}
use Rattle.todo_text.proofs.laws.lines_differ_in_every_text.Goals as goal

pub returns : goal.returns
returns c f g = line_one c.args.text.now c.args.a.now c.args.b.now f g
