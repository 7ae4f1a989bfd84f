-- Paragraphs of a message, as git-commit(1) and git-interpret-trailers(1) speak of them: lines without an empty one between.
use Rattle.std.specs.Prelude.{ℕ, List, [], ◌∷◌, ◌++◌, filter, map}
use Rattle.std.specs.List.{slice_split, join_with_byte}
use Rattle.message_text.specs.Lines.{lines, is_empty, has_some, up_to, from, without_blanks}

-- the paragraphs, none of them empty
abbrev pub paragraphs : List (List ℕ) → List (List (List ℕ))
paragraphs ls = filter has_some (slice_split is_empty ls)

-- parts in a row, with an empty line between each two
abbrev pub spaced : List (List (List ℕ)) → List (List ℕ)
spaced [] = []
spaced (p ∷ []) = p
spaced (p ∷ q ∷ ps) = p ++ [] ∷ spaced (q ∷ ps)

-- the empty lines at the front
abbrev pub opening : List (List ℕ) → List (List ℕ)
opening ls = up_to has_some ls

-- the first paragraph
abbrev pub first_paragraph : List (List ℕ) → List (List ℕ)
first_paragraph ls = up_to is_empty (from has_some ls)

-- what stands after the first paragraph
abbrev pub remainder : List (List ℕ) → List (List ℕ)
remainder ls = from is_empty (from has_some ls)

-- the subject of a message: its first paragraph as one line
unfoldable pub subject : List ℕ → List ℕ
subject text = join_with_byte 32 (map without_blanks (first_paragraph (lines text)))
