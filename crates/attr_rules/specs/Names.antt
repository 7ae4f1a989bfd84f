-- gitattributes(5), "DESCRIPTION": the names of attributes, in the words of a rule.
use Rattle.std.specs.Prelude.{ℕ, ◌==◌, Bool, true, false, not, ◌&&◌, ◌||◌, if◌then◌else◌, List, [], ◌∷◌}
use Rattle.std.specs.Char.{is_ascii_alphanumeric}
use Rattle.std.specs.List.{list_all, slice_split, before_first}
use Rattle.seq_base.specs.Blanks.{is_blank}

abbrev pub is_equals : ℕ → Bool
is_equals b = b == 61

-- a letter, a digit, `-`, `.` or `_`
abbrev pub is_name_byte : ℕ → Bool
is_name_byte b = is_ascii_alphanumeric b || (b == 45) || (b == 46) || (b == 95)

-- such bytes, the first of which is no `-`
abbrev pub is_name : List ℕ → Bool
is_name [] = false
is_name (b ∷ name) = not (b == 45) && list_all is_name_byte (b ∷ name)

-- without a `-` or a `!` in front
abbrev pub without_sign : List ℕ → List ℕ
without_sign [] = []
without_sign (b ∷ word) = if (b == 45) || (b == 33) then word else b ∷ word

-- the word mentions an attribute by a name, up to its value; between two blanks there is none
abbrev pub has_name : List ℕ → Bool
has_name [] = true
has_name (b ∷ word) = is_name (before_first is_equals (without_sign (b ∷ word)))

-- each of the words does
abbrev pub have_names : List ℕ → Bool
have_names attributes = list_all has_name (slice_split is_blank attributes)
