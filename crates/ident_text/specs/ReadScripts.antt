-- Reading an author's script from left to right.
use Rattle.std.specs.Prelude.{ℕ, Bool, ◌==◌, if◌then◌else◌, [], ◌∷◌, ◌++◌, codes, is_some, Option, Some, None, Result, Ok}
use Rattle.grammar.specs.Readers.{◌>>=◌, valued_at, literal_at, end_at}
use Rattle.seq_base.specs.Words.{Text}
use Rattle.ident_text.specs.declared.ident.Ident.{Ident}
use Rattle.ident_text.specs.declared.quotes.Quotes.{Quotes}
use Rattle.ident_text.specs.declared.quotes.Quotes.TheVariants.{Inside, Closed, Escaped, Written}
use Rattle.ident_text.specs.Idents.{is_ident_byte}
use Rattle.ident_text.specs.ReadIdents.{secs_from, zone_from, made}

-- where one stands behind a byte
abbrev pub behind : Quotes → ℕ → Option Quotes
behind Inside b = if b == 39 then Some Closed else if is_ident_byte b then Some Inside else None
behind Closed b = if b == 92 then Some Escaped else None
behind Escaped b = if b == 39 then Some Written else None
behind Written b = if b == 39 then Some Inside else None

abbrev pub behind_all : Option Quotes → Text → Option Quotes
behind_all None bs = None
behind_all (Some q) [] = Some q
behind_all (Some q) (b ∷ bs) = behind_all (behind q b) bs

-- a value in quotes may go on so, behind the quote that opens
abbrev pub may_be_quoted : Text → Bool
may_be_quoted front = is_some (behind_all (Some Inside) front)

-- what a byte adds to the value
abbrev pub shown : Quotes → ℕ → Text
shown Inside b = if b == 39 then [] else b ∷ []
shown Closed b = []
shown Escaped b = []
shown Written b = b ∷ []

abbrev pub with_shown : Text → Option Text → Option Text
with_shown bytes None = None
with_shown bytes (Some value) = Some (bytes ++ value)

-- the value that goes on with these bytes, up to the quote that closes
abbrev pub value_behind : Option Quotes → Text → Option Text
value_behind None bs = None
value_behind (Some Closed) [] = Some []
value_behind (Some q) [] = None
value_behind (Some q) (b ∷ bs) = with_shown (shown q b) (value_behind (behind q b) bs)

abbrev pub quoted_value : Text → Option Text
quoted_value w = value_behind (Some Inside) w

-- the value of a line, and what stands behind its LF
unfoldable pub quoted_from : Text → Result (Text × Text) ℕ
quoted_from bytes = valued_at may_be_quoted quoted_value 10 bytes

unfoldable pub script_from : Text → Result Ident ℕ
script_from bytes = do
  before_name ← literal_at (codes "GIT_AUTHOR_NAME='") bytes
  name ← quoted_from before_name.1
  before_email ← literal_at (codes "GIT_AUTHOR_EMAIL='") name.1
  email ← quoted_from before_email.1
  before_date ← literal_at (codes "GIT_AUTHOR_DATE='@") email.1
  secs ← secs_from before_date.1
  zone ← zone_from secs.1
  after ← literal_at (39 ∷ 10 ∷ []) zone.1
  end ← end_at after.1
  Ok (made name.0 email.0 secs.0 zone.0)
