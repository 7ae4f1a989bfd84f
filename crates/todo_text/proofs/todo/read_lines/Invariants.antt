use Rattle.std.proofs.Common.{◌≡◌, ◌+◌, ◌≤◌, length}
use Rattle.std.specs.Str.Lines.{lines}
use Rattle.todo_text.specs.ReadTodo.{led_by, todo_of}
use Rattle.todo_text.proofs.todo.read_lines.Given as goal

abbrev pub invariant-loop-rest : goal.invariant-loop-rest
invariant-loop-rest l = record {
  reads : led_by l.read.items (todo_of l.has_earlier (l.number + 1) (lines l.rest)) ≡ todo_of l.fn.earlier 1 (lines l.bytes);
  within : l.number + length l.rest ≤ length l.bytes;
}

abbrev pub decreases-loop-rest : goal.decreases-loop-rest
decreases-loop-rest l = length l.rest
