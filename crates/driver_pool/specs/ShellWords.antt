-- How a shell reads a word of quoted pieces (POSIX, Shell Command Language, 2.2 "Quoting").
use Rattle.std.specs.Prelude.{◌==◌, if◌then◌else◌, [], ◌∷◌, Option, Some, None}
use Rattle.std.specs.Option.{option_map}
use Rattle.seq_base.specs.Words.{Text}

-- where a byte stands: outside quotes, between single quotes, or behind a backslash outside quotes
pub data Mode : Type 0 where
  plain : Mode
  in_quotes : Mode
  behind_backslash : Mode

-- What a text is as one word, and None where it is no word of such pieces. Between quotes each byte but the closing quote is
-- itself, and so is the byte behind a backslash.
abbrev pub word_of : Mode → Text → Option Text
word_of plain [] = Some []
word_of plain (b ∷ bs) = if b == 39 then word_of in_quotes bs else if b == 92 then word_of behind_backslash bs else None
word_of in_quotes [] = None
word_of in_quotes (b ∷ bs) = if b == 39 then word_of plain bs else option_map (λ rest. b ∷ rest) (word_of in_quotes bs)
word_of behind_backslash [] = None
word_of behind_backslash (b ∷ bs) = option_map (λ rest. b ∷ rest) (word_of plain bs)
