use Rattle.std.proofs.Common.{◌≡◌, ◌≤◌, length}
use Rattle.todo_text.specs.Words.{from_blank}
use Rattle.todo_text.proofs.words.from_blank.Given as goal

abbrev pub invariant-loop-rest : goal.invariant-loop-rest
invariant-loop-rest l = (from_blank l.rest ≡ from_blank l.text) × (length l.rest ≤ length l.text)

abbrev pub decreases-loop-rest : goal.decreases-loop-rest
decreases-loop-rest l = length l.rest
