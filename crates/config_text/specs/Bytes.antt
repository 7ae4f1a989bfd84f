-- git-config(1), "Syntax": which bytes stand where.
use Rattle.std.specs.Prelude.{ℕ, ◌==◌, Bool, not, ◌&&◌, ◌||◌, if◌then◌else◌, List, Option, Some, None, map, codes}
use Rattle.std.specs.Char.{is_ascii_alphabetic, is_ascii_alphanumeric, to_ascii_lowercase}
use Rattle.std.specs.Str.{bytes_eq}

-- what begins a comment
abbrev pub is_comment_mark : ℕ → Bool
is_comment_mark b = (b == 35) || (b == 59)

-- a byte of a comment
abbrev pub is_in_line : ℕ → Bool
is_in_line b = not (b == 10)

-- a byte of a section's name
abbrev pub is_section_byte : ℕ → Bool
is_section_byte b = is_ascii_alphanumeric b || (b == 45) || (b == 46)

-- a key's first byte is a letter
abbrev pub is_letter : ℕ → Bool
is_letter b = is_ascii_alphabetic b

-- a further byte of a key
abbrev pub is_key_byte : ℕ → Bool
is_key_byte b = is_ascii_alphanumeric b || (b == 45)

-- a subsection holds neither LF nor NUL
abbrev pub is_sub_byte : ℕ → Bool
is_sub_byte b = not (b == 10) && not (b == 0)

-- such a byte that stands for itself without a `\`
abbrev pub is_plain_sub_byte : ℕ → Bool
is_plain_sub_byte b = is_sub_byte b && not (b == 34) && not (b == 92)

-- what `\` and a byte stand for in a value
abbrev pub escaped : ℕ → Option ℕ
escaped b =
    if b == 34 then Some 34
    else if b == 92 then Some 92
    else if b == 110 then Some 10
    else if b == 116 then Some 9
    else if b == 98 then Some 8
    else None

-- sections and keys compare without ASCII case
abbrev pub lower : List ℕ → List ℕ
lower name = map to_ascii_lowercase name

-- the settings of these sections name other files, and are passed over
abbrev pub is_include : List ℕ → Bool
is_include section = bytes_eq section (codes "include") || bytes_eq section (codes "includeif")
