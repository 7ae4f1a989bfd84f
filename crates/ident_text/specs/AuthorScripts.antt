-- The file `author-script` of a stopped rebase: assignments of a shell, whose values stand in single quotes (POSIX.1-2017, Shell
-- Command Language 2.2.2, "Single-Quotes").
use Rattle.std.specs.Prelude.{◌≡◌, ℕ, ◌==◌, if◌then◌else◌, [], ◌∷◌, ◌++◌, codes, FitsSigned}
use Rattle.std.specs.Int.{w64}
use Rattle.std.specs.Fmt.{signed_decimal}
use Rattle.std.specs.List.{flat_map}
use Rattle.seq_base.specs.Words.{Text}
use Rattle.ident_text.specs.declared.ident.Ident.{Ident}
use Rattle.ident_text.specs.Idents.{IsIdentValue}

-- a single quote is written `'\''`: one that closes, one behind a backslash, and one that opens
abbrev pub quoted_byte : ℕ → Text
quoted_byte b = if b == 39 then 39 ∷ 92 ∷ 39 ∷ 39 ∷ [] else b ∷ []

-- what stands between the outer quotes
abbrev pub quoted : Text → Text
quoted bytes = flat_map quoted_byte bytes

-- the rest of a line behind the quote that opens: the value, the quote that closes, and LF
abbrev pub quoted_line : Text → Text
quoted_line bytes = quoted bytes ++ 39 ∷ 10 ∷ []

-- the line of the time; neither a time nor a zone has a quote
abbrev pub date_line : Ident → Text
date_line ident = codes "GIT_AUTHOR_DATE='@" ++ signed_decimal ident.secs ++ 32 ∷ ident.zone ++ 39 ∷ 10 ∷ []

-- the three lines
abbrev pub script_text : Ident → Text
script_text ident = codes "GIT_AUTHOR_NAME='" ++ quoted_line ident.name ++ codes "GIT_AUTHOR_EMAIL='" ++ quoted_line ident.email ++ date_line ident

-- the text is the author's script
pub record IsAuthorScript (ident : Ident) (text : Text) : Type 0 where
  pub value : IsIdentValue ident
  pub fits : FitsSigned w64 ident.secs
  pub text_is : text ≡ script_text ident
