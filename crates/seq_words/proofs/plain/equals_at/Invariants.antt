use Rattle.std.proofs.Common.{◌≡◌, ℕ, ◌<◌, get_or, false}
use Rattle.seq_model.specs.Given.{is_equals}
use Rattle.seq_words.proofs.plain.equals_at.Given as goal

abbrev pub invariant-loop-n : goal.invariant-loop-n
invariant-loop-n l = (k : ℕ) → k < l.n → is_equals (get_or l.word k 0) ≡ false
