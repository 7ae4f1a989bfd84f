-- Lines, as git-stripspace(1) and git-commit(1) speak of them: what stands between line feeds. Blanks are spaces and tabs.
use Rattle.std.specs.Prelude.{ℕ, Bool, not, ◌==◌, if◌then◌else◌, List, [], ◌∷◌, ◌++◌, length}
use Rattle.std.specs.List.{list_all, slice_split, flat_map}
use Rattle.seq_base.specs.Blanks.{is_blank}

-- the lines of a text: one that ends in a line feed has an empty last line
abbrev pub lines : List ℕ → List (List ℕ)
lines text = slice_split (λ b. b == 10) text

-- the text of lines: each is ended by a line feed
abbrev pub text_of : List (List ℕ) → List ℕ
text_of ls = flat_map (λ l. l ++ 10 ∷ []) ls

abbrev pub is_empty : {X : Type 0} → List X → Bool
is_empty xs = length xs == 0

abbrev pub has_some : {X : Type 0} → List X → Bool
has_some xs = not (is_empty xs)

abbrev pub is_line_feed : ℕ → Bool
is_line_feed b = b == 10

-- what stands before the first that passes
abbrev pub up_to : {X : Type 0} → (X → Bool) → List X → List X
up_to p [] = []
up_to p (x ∷ xs) = if p x then [] else x ∷ up_to p xs

-- the first that passes, and what stands after it
abbrev pub from : {X : Type 0} → (X → Bool) → List X → List X
from p [] = []
from p (x ∷ xs) = if p x then x ∷ xs else from p xs

-- without those at the end that pass
abbrev pub without_end : (ℕ → Bool) → List ℕ → List ℕ
without_end p [] = []
without_end p (x ∷ xs) = if list_all p (x ∷ xs) then [] else x ∷ without_end p xs

-- a line without the blanks at its end
abbrev pub without_blanks : List ℕ → List ℕ
without_blanks line = without_end is_blank line

-- a text without the line feeds at its end
abbrev pub body : List ℕ → List ℕ
body text = without_end is_line_feed text
