-- Reading a reflog from left to right.
use Rattle.std.specs.Prelude.{◌≡◌, ℕ, Bool, true, not, ◌==◌, if◌then◌else◌, length, List, [], ◌∷◌, Option, Some, None, Result, Ok}
use Rattle.std.specs.List.{list_all}
use Rattle.std.specs.Result.{result_unwrap_or}
use Rattle.std.specs.Str.{bytes_eq}
use Rattle.hex.specs.Hex.{decode_of, is_hex_digit}
use Rattle.grammar.specs.Readers.{◌>>=◌, end_at, literal_at, passing_at, run_at, star_at, text_at}
use Rattle.seq_base.specs.Words.{Id, Text}
use Rattle.ident_text.specs.ReadIdents.{ident_from}
use Rattle.ref_text.specs.declared.log.LogLine.{LogLine}
use Rattle.ref_text.specs.Logs.{zeros}

-- the bytes of hex digits
abbrev pub id_of : Text → Id
id_of digits = result_unwrap_or (decode_of digits) []

abbrev pub old_of : Text → Option Id
old_of digits = if bytes_eq digits zeros then None else Some (id_of digits)

abbrev pub in_line : ℕ → Bool
in_line b = not (b == 10)

abbrev pub made : Text → Text → Text → Text → LogLine
made old new ident message = record { old = old_of old; new = id_of new; ident = ident; message = message }

-- forty hex digits
pub record AreDigits (digits : Text) : Type 0 where
  pub forty : length digits ≡ 40
  pub hex : list_all is_hex_digit digits ≡ true

-- the digits of an id, and the SP behind them
unfoldable pub digits_from : Text → Result (Text × Text) ℕ
digits_from bytes = do
  digits ← passing_at is_hex_digit 40 bytes
  behind ← literal_at (32 ∷ []) digits.1
  Ok (digits.0, behind.1)

-- the ident, and the TAB behind it
unfoldable pub who_from : Text → Result (Text × Text) ℕ
who_from bytes = do
  ident ← text_at ident_from bytes
  behind ← literal_at (9 ∷ []) ident.1
  Ok (ident.0, behind.1)

unfoldable pub line_from : Text → Result (LogLine × Text) ℕ
line_from bytes = do
  old ← digits_from bytes
  new ← digits_from old.1
  ident ← who_from new.1
  message ← run_at in_line 10 ident.1
  Ok (made old.0 new.0 ident.0 message.0, message.1)

abbrev pub any_byte : ℕ → Bool
any_byte b = true

abbrev pub kept : Unit {0} → LogLine → Unit {0}
kept s line = s

-- all lines
unfoldable pub log_from : Text → Result (List LogLine) ℕ
log_from bytes = do
  lines ← star_at any_byte kept (λ s. line_from) (λ s rest. end_at rest) (length bytes) tt bytes
  Ok lines.0
