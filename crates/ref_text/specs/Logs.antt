-- A reflog (git-reflog(1); gitrepository-layout(5), "logs").
use Rattle.std.specs.Prelude.{◌≡◌, ◌≢◌, true, not, ◌==◌, replicate, List, [], ◌∷◌, ◌++◌, Option, Some, None}
use Rattle.std.specs.List.{list_all}
use Rattle.hex.specs.Hex.{encode_lower}
use Rattle.seq_base.specs.Words.{Id, Text}
use Rattle.seq_base.specs.Ids.{SpellsId}
use Rattle.ident_text.specs.declared.ident.Ident.{Ident}
use Rattle.ident_text.specs.Idents.{IsIdent}
use Rattle.ref_text.specs.declared.log.LogLine.{LogLine}

-- forty zeros stand for no value
abbrev pub zeros : Text
zeros = replicate 40 48

-- the digits are those of the value, if there is one
abbrev pub SpellsOld : Option Id → Text → Type 0
SpellsOld None digits = digits ≡ zeros
SpellsOld (Some id) digits = SpellsId id digits × (digits ≢ zeros)

-- it holds no LF
abbrev pub IsMessage : Text → Type 0
IsMessage message = list_all (λ b. not (b == 10)) message ≡ true

-- `<old> SP <new> SP <ident> TAB <message> LF`
abbrev pub line_of_fields : Text → Text → Text → Text → Text
line_of_fields old new ident message = old ++ 32 ∷ new ++ 32 ∷ ident ++ 9 ∷ message ++ 10 ∷ []

-- the text is the line's
pub record IsLogLine (line : LogLine) (text : Text) : Type 0 where
  pub old : Text
  pub new : Text
  pub who : Ident
  pub is_old : SpellsOld line.old old
  pub is_new : SpellsId line.new new
  pub is_ident : IsIdent who line.ident
  pub is_message : IsMessage line.message
  pub text_is : text ≡ line_of_fields old new line.ident line.message

-- one line after the other
abbrev pub IsLog : List LogLine → Text → Type 0
IsLog [] text = text ≡ []
IsLog (l ∷ lines) text = (a : Text) × (b : Text) × IsLogLine l a × IsLog lines b × (text ≡ a ++ b)

-- an id of zeros alone is no value
abbrev pub IsOldValue : Option Id → Type 0
IsOldValue None = Unit {0}
IsOldValue (Some id) = id ≢ replicate 20 0

-- some text is the line's
pub record IsLogValue (line : LogLine) : Type 0 where
  pub who : Ident
  pub is_old : IsOldValue line.old
  pub is_ident : IsIdent who line.ident
  pub is_message : IsMessage line.message

abbrev pub old_text : Option Id → Text
old_text None = zeros
old_text (Some id) = encode_lower id

-- the text that is written, with digits in lower case
abbrev pub log_text : LogLine → Text
log_text line = line_of_fields (old_text line.old) (encode_lower line.new) line.ident line.message
