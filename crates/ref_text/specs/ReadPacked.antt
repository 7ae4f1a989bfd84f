-- Reading packed refs from left to right.
use Rattle.std.specs.Prelude.{ℕ, Bool, false, ◌&&◌, ◌==◌, if◌then◌else◌, is_some, length, List, [], ◌∷◌, ◌++◌, Option, Some, None, Result, Ok}
use Rattle.hex.specs.Hex.{is_hex_digit}
use Rattle.grammar.specs.Readers.{◌>>=◌, begins, end_at, literal_at, passing_at, run_at, star_at, valued_at}
use Rattle.seq_base.specs.Words.{Id, Name, Text}
use Rattle.seq_base.specs.declared.ref_front.RefFront.{RefFront}
use Rattle.seq_base.specs.RefNameFronts.{behind}
use Rattle.seq_base.specs.RefNames.{is_ref_name}
use Rattle.ref_text.specs.ReadLogs.{any_byte, digits_from, id_of, in_line}

-- a name and its id
abbrev pub Ref : Type 0
Ref = Name × Id

abbrev pub at_name : RefFront
at_name = record { part = 0; text = 0 }

abbrev pub then_front : Option RefFront → (RefFront → Option RefFront) → Option RefFront
then_front None f = None
then_front (Some s) f = f s

-- behind these bytes of a name, of which others were seen before
unfoldable pub behind_all : RefFront → Text → Text → Option RefFront
behind_all s seen [] = Some s
behind_all s seen (b ∷ bytes) = then_front (behind s (seen ++ b ∷ [])) (λ t. behind_all t (seen ++ b ∷ []) bytes)

-- a name begins so
abbrev pub may_name : Text → Bool
may_name front = is_some (behind_all at_name [] front)

abbrev pub name_value : Text → Option Name
name_value name = if is_ref_name name then Some name else None

-- a comment
unfoldable pub comment_from : Text → Result (Option Ref × Text) ℕ
comment_from bytes = do
  mark ← literal_at (35 ∷ []) bytes
  text ← run_at in_line 10 mark.1
  Ok (None, text.1)

-- what a tag points to
unfoldable pub peeled_from : Text → Result (Option Ref × Text) ℕ
peeled_from bytes = do
  mark ← literal_at (94 ∷ []) bytes
  digits ← passing_at is_hex_digit 40 mark.1
  end ← literal_at (10 ∷ []) digits.1
  Ok (None, end.1)

-- a ref
unfoldable pub named_from : Text → Result (Option Ref × Text) ℕ
named_from bytes = do
  digits ← digits_from bytes
  name ← valued_at may_name name_value 10 digits.1
  Ok (Some (name.0, id_of digits.0), name.1)

abbrev pub is_hash : ℕ → Bool
is_hash b = b == 35

abbrev pub is_caret : ℕ → Bool
is_caret b = b == 94

-- a line, told by its first byte; after is whether a ref stands right before
unfoldable pub packed_line_from : Bool → Text → Result (Option Ref × Text) ℕ
packed_line_from after bytes =
    if begins is_hash bytes then comment_from bytes
    else if after && begins is_caret bytes then peeled_from bytes
    else named_from bytes

abbrev pub next_after : Bool → Option Ref → Bool
next_after after line = is_some line

-- the refs of lines
abbrev pub refs_of : List (Option Ref) → List Ref
refs_of [] = []
refs_of (None ∷ lines) = refs_of lines
refs_of (Some r ∷ lines) = r ∷ refs_of lines

-- all lines
unfoldable pub packed_from : Text → Result (List Ref) ℕ
packed_from bytes = do
  lines ← star_at any_byte next_after packed_line_from (λ s rest. end_at rest) (length bytes) false bytes
  Ok (refs_of lines.0)
