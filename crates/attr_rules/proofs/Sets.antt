-- The first byte or range of a set, and the rest.
use Rattle.std.proofs.Common.{◌≡◌, ℕ, ◌<◌, ◌≤◌, Bool, true, false, List, [], ◌∷◌, length, get_or, drop, refl, ap, ◌∙◌, arith}
use Rattle.std.specs.Prelude.{◌&&◌, ◌||◌, ◌==◌, nat_le}
use Rattle.attr_rules.specs.declared.letter.Letter.{Letter}
use Rattle.attr_rules.specs.Letters.{is_plain}
use Rattle.attr_rules.specs.Pieces.{is_member}

-- it is in the range
abbrev pub in_range : Letter → Letter → ℕ → Bool
in_range low high b = (low.byte == b) || (nat_le low.byte b && nat_le b high.byte)

or_assoc : (a b c : Bool) → ((a || b) || c) ≡ (a || (b || c))
or_assoc true b c = refl
or_assoc false b c = refl

pub range_step : (ms : List Letter) (b : ℕ) (d : Letter) (has : Bool) → 3 ≤ length ms → is_plain (get_or ms 1 d) 45 ≡ true
    → has ≡ in_range (get_or ms 0 d) (get_or ms 2 d) b → (has || is_member (drop 3 ms) b) ≡ is_member ms b
range_step [] b d has long dash is = absurd (omega arith)
range_step (low ∷ []) b d has long dash is = absurd (omega arith)
range_step (low ∷ dash ∷ []) b d has long is_dash is = absurd (omega arith)
range_step (low ∷ dash ∷ high ∷ rest) b d has long is_dash is =
    rw is_dash (ap (λ (t : Bool). t || is_member rest b) is ∙ or_assoc (low.byte == b) (nat_le low.byte b && nat_le b high.byte) (is_member rest b))

or_false : (b : Bool) → (b || false) ≡ b
or_false true = refl
or_false false = refl

pub byte_step : (ms : List Letter) (b : ℕ) (d : Letter) → 0 < length ms → (3 ≤ length ms → is_plain (get_or ms 1 d) 45 ≡ false)
    → (((get_or ms 0 d).byte == b) || is_member (drop 1 ms) b) ≡ is_member ms b
byte_step [] b d some plain = absurd (omega arith)
byte_step (low ∷ []) b d some plain = or_false (low.byte == b)
byte_step (low ∷ dash ∷ []) b d some plain = refl
byte_step (low ∷ dash ∷ high ∷ rest) b d some plain = let is_not : is_plain dash 45 ≡ false = plain (omega arith) in rw is_not refl
