use Rattle.std.proofs.Common.{◌≡◌, ℕ, ◌<◌, get_or, false}
use Rattle.attr_rules.proofs.cut.first_word.Given as goal
use Rattle.seq_base.specs.Blanks.{is_blank}

abbrev pub invariant-loop-n : goal.invariant-loop-n
invariant-loop-n l = (k : ℕ) → k < l.n → is_blank (get_or l.text k 0) ≡ false
