-- Ids, and their hex digits (gitrevisions(7): "the full SHA-1 object name").
use Rattle.std.specs.Prelude.{◌≡◌, length, Ok}
use Rattle.hex.specs.Hex.{IsBytes, decode_of}
use Rattle.seq_base.specs.Words.{Id, Text}

-- how many bytes an id has: those of a SHA-1
abbrev pub HasIdWidth : Id → Type 0
HasIdWidth id = length id ≡ 20

-- bytes that an id may be
abbrev pub IsId : Id → Type 0
IsId id = IsBytes id × HasIdWidth id

-- forty hex digits, in either case, whose pairs are the bytes
pub record SpellsId (id : Id) (text : Text) : Type 0 where
  pub forty : length text ≡ 40
  pub bytes : decode_of text ≡ Ok id
