-- The least of one or two paths.
use Rattle.std.proofs.Common.{◌≡◌, true, false, List, [], ◌∷◌, ℕ, Some, refl}
use Rattle.seq_base.specs.PathMaps.{is_less}
use Rattle.stage_index.specs.Least.{least}
use Rattle.stage_index.proofs.Orders.{less_back, not_less_itself}

pub least_of_one : (a : List ℕ) → least (a ∷ []) ≡ Some a
least_of_one a = rw (not_less_itself a) refl

pub least_is_first : (a b : List ℕ) → is_less b a ≡ false → least (a ∷ b ∷ []) ≡ Some a
least_is_first a b other = rw (not_less_itself a, other) refl

pub least_is_second : (a b : List ℕ) → is_less b a ≡ true → least (a ∷ b ∷ []) ≡ Some b
least_is_second a b less = rw (not_less_itself a, less, not_less_itself b, less_back b a less) refl

pub ruleset least_of_two = (least_of_one, least_is_first, least_is_second)
