use Rattle.std.proofs.Common.{◌≡◌, length}
use Rattle.todo_text.specs.Words.{to_word}
use Rattle.todo_text.proofs.words.to_word.Given as goal

abbrev pub invariant-loop-rest : goal.invariant-loop-rest
invariant-loop-rest l = to_word l.rest ≡ to_word l.text

abbrev pub decreases-loop-rest : goal.decreases-loop-rest
decreases-loop-rest l = length l.rest
