-- The command line of a merge driver (gitattributes(5), "Defining a custom merge driver").
use Rattle.std.specs.Prelude.{ℕ, ◌==◌, Bool, true, false, if◌then◌else◌, [], ◌∷◌, ◌++◌, codes}
use Rattle.std.specs.List.{flat_map}
use Rattle.seq_base.specs.Words.{Path, Text}
use Rattle.driver_pool.specs.Files.{file_of}
use Rattle.driver_pool.specs.declared.files.Version.TheVariants.{Base, Ours, Theirs}

-- a byte between single quotes: one of its own stands outside them behind a backslash, and so does `!`
abbrev pub quoted_byte : ℕ → Text
quoted_byte b = if b == 39 then codes "'\\''" else if b == 33 then codes "'\\!'" else b ∷ []

-- a path as one word of the shell
abbrev pub quoted : Path → Text
quoted path = 39 ∷ flat_map quoted_byte path ++ 39 ∷ []

-- what stands for `%` and a byte in the job of that number
abbrev pub placeholder : ℕ → Path → ℕ → Text
placeholder letter path number =
    if letter == 79 then file_of number Base
    else if letter == 65 then file_of number Ours
    else if letter == 66 then file_of number Theirs
    else if letter == 76 then codes "7"
    else if letter == 80 then quoted path
    else if letter == 37 then codes "%"
    else 37 ∷ letter ∷ []

-- what is left of a template, or of one behind a `%`, with what stands for its placeholders; a `%` at the end stays
unfoldable pub filled : Bool → Text → Path → ℕ → Text
filled false [] path number = []
filled true [] path number = 37 ∷ []
filled false (b ∷ bs) path number = if b == 37 then filled true bs path number else b ∷ filled false bs path number
filled true (letter ∷ bs) path number = placeholder letter path number ++ filled false bs path number

-- a template with what stands for its placeholders
abbrev pub command_of : Text → Path → ℕ → Text
command_of template path number = filled false template path number
