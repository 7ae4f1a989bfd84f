use Rattle.std.proofs.Common.{◌≡◌, ℕ, ◌<◌, get_or, false}
use Rattle.attr_rules.specs.Rules.{is_feed}
use Rattle.attr_rules.proofs.cut.first_line.Given as goal

abbrev pub invariant-loop-n : goal.invariant-loop-n
invariant-loop-n l = (k : ℕ) → k < l.n → is_feed (get_or l.text k 0) ≡ false
