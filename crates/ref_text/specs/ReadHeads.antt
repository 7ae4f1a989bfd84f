-- Reading HEAD and loose refs: the line up to the first blank or line feed behind `ref: `, and what stands behind it.
use Rattle.std.specs.Prelude.{ℕ, ◌+◌, Bool, true, ◌&&◌, ◌||◌, ◌==◌, nat_eq, if◌then◌else◌, [], ◌∷◌, length, take, drop, codes, Option, Some, None, Result, Ok, Err}
use Rattle.std.specs.List.{position_or_len, starts_with}
use Rattle.std.specs.Option.{option_map}
use Rattle.std.specs.Str.{bytes_eq}
use Rattle.hex.specs.Hex.{decode_of}
use Rattle.seq_base.specs.Words.{Id, Name, Text}
use Rattle.seq_base.specs.Blanks.{is_blank}
use Rattle.seq_base.specs.RefNames.{is_ref_name}
use Rattle.ref_text.specs.declared.head.Head.{Head}
use Rattle.ref_text.specs.declared.head.Head.TheVariants.{Branch, Detached}
use Rattle.ref_text.specs.Refs.{head_name}

abbrev pub ok_of : {A E : Type 0} → Result A E → Option A
ok_of (Ok x) = Some x
ok_of (Err e) = None

-- the id that forty hex digits spell, in either case
unfoldable pub id_in : Text → Option Id
id_in digits = if length digits == 40 then ok_of (decode_of digits) else None

-- the branch that a line names, without its line feed
abbrev pub branch_in : Text → Option Name
branch_in line = if starts_with nat_eq line (codes "ref: ") && is_ref_name (drop 5 line) then Some (drop 5 line) else None

abbrev pub head_on : Text → Option Name → Option Head
head_on line (Some name) = Some (Branch name)
head_on line None = option_map Detached (id_in line)

-- what a line says
unfoldable pub head_in : Text → Option Head
head_in line = head_on line (branch_in line)

abbrev pub ends_word : ℕ → Bool
ends_word b = is_blank b || b == 10

-- how many bytes the line of a text has
unfoldable pub line_length : Text → ℕ
line_length text =
    if starts_with nat_eq text (codes "ref: ") then 5 + position_or_len ends_word (drop 5 text)
    else position_or_len ends_word text

-- HEAD, whose line ends with its line feed
unfoldable pub head_of : Text → Option Head
head_of text = if bytes_eq (drop (line_length text) text) (10 ∷ []) then head_in (take (line_length text) text) else None

-- blanks, and a line feed or none
unfoldable pub is_loose_end : Text → Bool
is_loose_end [] = true
is_loose_end (b ∷ bytes) = if b == 10 then length bytes == 0 else (is_blank b && is_loose_end bytes)

-- a loose ref
unfoldable pub loose_of : Text → Option Head
loose_of text = if is_loose_end (drop (line_length text) text) then head_in (take (line_length text) text) else None

-- the file of a name: HEAD has the strict text
abbrev pub file_of : Name → Text → Option Head
file_of name text = if bytes_eq name head_name then head_of text else loose_of text
