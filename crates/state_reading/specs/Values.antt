-- What state files of one value say (git-rebase(1)).
use Rattle.std.specs.Prelude.{◌-◌, if◌then◌else◌, [], length, take, Option, Some, None, unwrap_or, FitsSigned}
use Rattle.std.specs.Int.{w64}
use Rattle.ident_text.specs.declared.ident.Ident.{Ident}
use Rattle.ident_text.specs.AuthorScripts.{script_text}
use Rattle.ident_text.specs.Idents.{IsIdentValue}
use Rattle.seq_base.specs.RefNames.{is_ref_name}
use Rattle.seq_base.specs.Words.{Id, Name, Text}
use Rattle.state_text.specs.Texts.{id_line, zeros}
use Rattle.state_reading.specs.Lines.{id_at}

-- all but the last byte, which is the line feed of a text of one line
abbrev pub without_feed : Text → Text
without_feed bytes = take (length bytes - 1) bytes

-- the branch that a text names, where it names one
abbrev pub name_at : Text → Option Name
name_at l = if is_ref_name l then Some l else None

-- the id of a text, and zeros where it has none
abbrev pub id_or_zeros : Text → Id
id_or_zeros bytes = unwrap_or (id_at bytes) zeros

-- an id that may be missing: a file that is missing has no byte
abbrev pub optional_line : Option Id → Text
optional_line None = []
optional_line (Some id) = id_line id

-- an author that may be missing
abbrev pub optional_script : Option Ident → Text
optional_script None = []
optional_script (Some ident) = script_text ident

pub record IsAuthor (ident : Ident) : Type 0 where
  pub value : IsIdentValue ident
  pub fits : FitsSigned w64 ident.secs
