use Rattle.std.proofs.Common.{◌≡◌, ◌+◌, ◌++◌, ◌≤◌, length}
use Rattle.std.specs.Str.Lines.{lines}
use Rattle.reading.specs.Todos.{numbers}
use Rattle.seq_state.proofs.todo.numbers.Given as goal

abbrev pub invariant-loop-rest : goal.invariant-loop-rest
invariant-loop-rest l = record {
  numbers : l.numbers.items ++ numbers (l.number + 1) (lines l.rest) ≡ numbers 1 (lines l.todo);
  within : l.number + length l.rest ≤ length l.todo;
}

abbrev pub decreases-loop-rest : goal.decreases-loop-rest
decreases-loop-rest l = length l.rest
