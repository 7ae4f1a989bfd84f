-- Decimal numbers: digits, with no sign, and no 0 before others.
use Rattle.std.specs.Prelude.{ℕ, ◌-◌, ◌^◌, min, Bool, true, false, ◌&&◌, ◌==◌, if◌then◌else◌, List, [], ◌∷◌, Option, Some, None, Result, Ok}
use Rattle.std.specs.Char.{is_ascii_digit}
use Rattle.std.specs.List.{list_all}
use Rattle.std.specs.Str.Parse.{digits_value}
use Rattle.grammar.specs.Readers.{◌>>=◌, valued_at}

abbrev pub is_none : List ℕ → Bool
is_none [] = true
is_none (b ∷ bs) = false

-- a decimal number begins so
abbrev pub is_decimal_front : List ℕ → Bool
is_decimal_front [] = true
is_decimal_front (b ∷ bs) = is_ascii_digit b && (if b == 48 then is_none bs else list_all is_ascii_digit bs)

-- the number that the digits write
abbrev pub decimal_value : List ℕ → Option ℕ
decimal_value [] = None
decimal_value (b ∷ bs) = if is_decimal_front (b ∷ bs) then Some (digits_value 10 (b ∷ bs)) else None

-- the number up to the byte that ends it
unfoldable pub decimal_at : ℕ → List ℕ → Result (ℕ × List ℕ) ℕ
decimal_at stop bytes = valued_at is_decimal_front decimal_value stop bytes

-- the greatest number that the program knows stands for each that is greater
abbrev pub capped : ℕ → ℕ
capped n = min n (2 ^ 64 - 1)

unfoldable pub capped_decimal_at : ℕ → List ℕ → Result (ℕ × List ℕ) ℕ
capped_decimal_at stop bytes = do
  n ← decimal_at stop bytes
  Ok (capped n.0, n.1)
