use Rattle.todo_text.proofs.TodoLaws.{todo_read, read_spelled}
use Rattle.todo_text.proofs.todo.parse_todo.Goals as goal

pub returns-clause-reads : goal.returns-clause-reads
returns-clause-reads c = todo_read c.args.earlier c.args.bytes.now _ c.read_lines.ensures

pub returns-clause-spelled : goal.returns-clause-spelled
returns-clause-spelled c = read_spelled (λ v. v.items) c.args.bytes.now c.args.earlier c.read_lines.result c.read_lines.ensures
