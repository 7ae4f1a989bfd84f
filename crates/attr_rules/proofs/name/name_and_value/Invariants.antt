use Rattle.std.proofs.Common.{◌≡◌, ℕ, ◌<◌, get_or, false}
use Rattle.attr_rules.specs.Names.{is_equals}
use Rattle.attr_rules.proofs.name.name_and_value.Given as goal

abbrev pub invariant-loop-n : goal.invariant-loop-n
invariant-loop-n l = (k : ℕ) → k < l.n → is_equals (get_or l.word k 0) ≡ false
