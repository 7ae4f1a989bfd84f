-- One of a few words.
use Rattle.std.specs.Prelude.{◌≡◌, ℕ, ◌<◌, Bool, true, false, not, nat_lt, ◌&&◌, ◌==◌, if◌then◌else◌, List, [], ◌∷◌, Option, Some, None}
use Rattle.std.specs.List.{starts_with, list_all}
use Rattle.std.specs.Str.{bytes_eq}

abbrev pub is_front : List ℕ → List ℕ → Bool
is_front front text = starts_with (λ a b. a == b) text front

abbrev pub is_same : List ℕ → List ℕ → Bool
is_same a b = bytes_eq a b

-- the value of a word
abbrev pub value_of : {K : Type 0} → List (List ℕ × K) → List ℕ → Option K
value_of [] w = None
value_of (k ∷ ks) w = if is_same k.0 w then Some k.1 else value_of ks w

-- whether a word begins so
abbrev pub may_of : {K : Type 0} → List (List ℕ × K) → List ℕ → Bool
may_of [] front = false
may_of (k ∷ ks) front = if is_front front k.0 then true else may_of ks front

-- bytes, and none of them the one that ends a word
abbrev pub IsPlain : ℕ → List ℕ → Type 0
IsPlain stop [] = Unit {0}
IsPlain stop (b ∷ bs) = (b < 256) × (b ≡ stop → ⊥) × IsPlain stop bs

abbrev pub ArePlain : {K : Type 0} → ℕ → List (List ℕ × K) → Type 0
ArePlain stop [] = Unit {0}
ArePlain stop (k ∷ ks) = IsPlain stop k.0 × ArePlain stop ks

abbrev pub is_plain : ℕ → List ℕ → Bool
is_plain stop w = list_all (λ b. nat_lt b 256 && not (b == stop)) w

abbrev pub are_plain : {K : Type 0} → ℕ → List (List ℕ × K) → Bool
are_plain stop ks = list_all (λ k. is_plain stop k.0) ks
