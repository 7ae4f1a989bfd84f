-- Reading who made a commit and when, from left to right.
use Rattle.std.specs.Prelude.{◌≡◌, ℕ, ℤ, pos, negsuc, ◌-◌, ◌^◌, Bool, true, false, not, ◌&&◌, ◌==◌, nat_le, if◌then◌else◌, [], ◌∷◌, ◌++◌, length, take, slice_index, Option, Some, None, Result, Ok}
use Rattle.std.specs.Char.{is_ascii_digit}
use Rattle.std.specs.List.{list_all}
use Rattle.std.specs.Str.Parse.{digits_value}
use Rattle.grammar.specs.Decimals.{is_decimal_front}
use Rattle.grammar.specs.Readers.{◌>>=◌, valued_at, run_at, literal_at, passing_at, end_at, text_at}
use Rattle.seq_base.specs.Words.{Text}
use Rattle.ident_text.specs.declared.ident.Ident.{Ident}
use Rattle.ident_text.specs.Idents.{IsIdent, ident_text, is_ident_byte, is_sign}

abbrev pub ends_in_space : Text → Bool
ends_in_space w = not (length w == 0) && slice_index w (length w - 1) == 32

-- the name before the SP that ends the word
abbrev pub name_value : Text → Option Text
name_value w = if list_all is_ident_byte w && ends_in_space w then Some (take (length w - 1) w) else None

unfoldable pub name_from : Text → Result (Text × Text) ℕ
name_from bytes = valued_at (list_all is_ident_byte) name_value 60 bytes

-- a 0 stands first
abbrev pub is_zero_first : Text → Bool
is_zero_first [] = false
is_zero_first (b ∷ bs) = b == 48

-- some time may begin so: digits with no 0 before others, or `-` and digits with no 0 in front, within 64 bits with a sign
abbrev pub is_secs_front : Text → Bool
is_secs_front [] = true
is_secs_front (b ∷ bs) =
    if b == 45 then is_decimal_front bs && not (is_zero_first bs) && nat_le (digits_value 10 bs) (2 ^ 63)
    else is_decimal_front (b ∷ bs) && nat_le (digits_value 10 (b ∷ bs)) (2 ^ 63 - 1)

-- the number that such a front writes: none where there is no digit
abbrev pub number_of : Text → Option ℤ
number_of [] = None
number_of (b ∷ bs) =
    if b == 45 then (if length bs == 0 then None else Some (negsuc (digits_value 10 bs - 1)))
    else Some (pos (digits_value 10 (b ∷ bs)))

abbrev pub secs_value : Text → Option ℤ
secs_value w = if is_secs_front w then number_of w else None

-- the seconds, up to the SP behind them
unfoldable pub secs_from : Text → Result (ℤ × Text) ℕ
secs_from bytes = valued_at is_secs_front secs_value 32 bytes

unfoldable pub zone_from : Text → Result (Text × Text) ℕ
zone_from bytes = do
  sign ← passing_at is_sign 1 bytes
  digits ← passing_at is_ascii_digit 4 sign.1
  Ok (sign.0 ++ digits.0, digits.1)

abbrev pub made : Text → Text → ℤ → Text → Ident
made name email secs zone = record { name = name; email = email; secs = secs; zone = zone }

-- an ident, and what stands behind it
unfoldable pub ident_from : Text → Result (Ident × Text) ℕ
ident_from bytes = do
  name ← name_from bytes
  email ← run_at is_ident_byte 62 name.1
  space ← literal_at (32 ∷ []) email.1
  secs ← secs_from space.1
  zone ← zone_from secs.1
  Ok (made name.0 email.0 secs.0 zone.0, zone.1)

-- the text of an ident, and what stands behind it
unfoldable pub ident_text_from : Text → Result (Text × Text) ℕ
ident_text_from bytes = text_at ident_from bytes

-- an ident, and nothing behind it
unfoldable pub whole_ident_from : Text → Result Ident ℕ
whole_ident_from bytes = do
  ident ← ident_from bytes
  end ← end_at ident.1
  Ok ident.0

-- the text reads as one ident alone, and is that ident's text
pub record ReadsAsIdent (text : Text) : Type 0 where
  pub ident : Ident
  pub read : whole_ident_from text ≡ Ok ident
  pub alone : (other : Ident) → IsIdent other text → other ≡ ident
  pub back : text ≡ ident_text ident
