-- Forty hex digits, as an id, and what stands behind them (gitrevisions(7): "the full SHA-1 object name").
use Rattle.std.specs.Prelude.{◌≡◌, ℕ, true, length, [], Result, Ok}
use Rattle.std.specs.List.{list_all}
use Rattle.std.specs.Result.{result_unwrap_or}
use Rattle.hex.specs.Hex.{decode_of, is_hex_digit}
use Rattle.grammar.specs.Readers.{◌>>=◌, passing_at}
use Rattle.seq_base.specs.Words.{Id, Text}

-- forty hex digits, in either case
pub record AreIdDigits (digits : Text) : Type 0 where
  pub forty : length digits ≡ 40
  pub hex : list_all is_hex_digit digits ≡ true

-- the bytes of hex digits
abbrev pub id_of_digits : Text → Id
id_of_digits digits = result_unwrap_or (decode_of digits) []

-- the digits of an id, and what stands behind them
unfoldable pub id_digits_from : Text → Result (Text × Text) ℕ
id_digits_from bytes = passing_at is_hex_digit 40 bytes

-- an id, and what stands behind it
unfoldable pub id_from : Text → Result (Id × Text) ℕ
id_from bytes = do
  digits ← id_digits_from bytes
  Ok (id_of_digits digits.0, digits.1)
