-- Who made a commit and when, `<name> SP < <email> > SP <secs> SP <zone>` (git-commit-tree(1), "Commit Information"; "Git internal
-- format" of DATE FORMATS).
use Rattle.std.specs.Prelude.{◌≡◌, ℕ, Bool, true, not, ◌&&◌, ◌||◌, ◌==◌, nat_lt, ◌∷◌, ◌++◌, length, drop, slice_index, codes, FitsSigned}
use Rattle.std.specs.Int.{w64}
use Rattle.std.specs.Char.{is_ascii_digit}
use Rattle.std.specs.Fmt.{signed_decimal}
use Rattle.std.specs.List.{list_all}
use Rattle.seq_base.specs.Words.{Text}
use Rattle.ident_text.specs.declared.ident.Ident.{Ident}

-- a name and an email hold neither `<` nor `>` nor LF nor NUL
abbrev pub is_ident_byte : ℕ → Bool
is_ident_byte b = not (b == 60) && not (b == 62) && not (b == 10) && not (b == 0) && nat_lt b 256

-- `+` or `-`
abbrev pub is_sign : ℕ → Bool
is_sign b = b == 43 || b == 45

-- a sign and four digits
abbrev pub is_zone : Text → Bool
is_zone zone = length zone == 5 && is_sign (slice_index zone 0) && list_all is_ascii_digit (drop 1 zone)

-- some text is the ident's
pub record IsIdentValue (ident : Ident) : Type 0 where
  pub name : list_all is_ident_byte ident.name ≡ true
  pub email : list_all is_ident_byte ident.email ≡ true
  pub zone : is_zone ident.zone ≡ true

-- the text of an ident: the seconds have no plus sign, and no 0 before other digits
abbrev pub ident_text : Ident → Text
ident_text ident = ident.name ++ codes " <" ++ ident.email ++ codes "> " ++ signed_decimal ident.secs ++ 32 ∷ ident.zone

-- the text is the ident's
pub record IsIdent (ident : Ident) (text : Text) : Type 0 where
  pub value : IsIdentValue ident
  pub fits : FitsSigned w64 ident.secs
  pub text_is : text ≡ ident_text ident

-- the text of some ident
abbrev pub IsIdentText : Text → Type 0
IsIdentText text = (ident : Ident) × IsIdent ident text
