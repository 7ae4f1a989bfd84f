-- Words of a line (git-rebase(1), "INTERACTIVE MODE"): they are separated by blanks, which are spaces and tabs.
use Rattle.std.specs.Prelude.{ℕ, Bool, ◌||◌, ◌==◌, if◌then◌else◌, List, [], ◌∷◌, length, drop, codes}
use Rattle.std.specs.List.{list_all, starts_with}
use Rattle.std.specs.Str.{bytes_eq}
use Rattle.seq_base.specs.Blanks.{is_blank}

-- a text without the blanks in front
abbrev pub from_word : List ℕ → List ℕ
from_word [] = []
from_word (b ∷ bs) = if is_blank b then from_word bs else b ∷ bs

-- a text without the blanks at its end
abbrev pub to_word : List ℕ → List ℕ
to_word [] = []
to_word (b ∷ bs) = if list_all is_blank (b ∷ bs) then [] else b ∷ to_word bs

-- a text without the blanks around it
abbrev pub trimmed : List ℕ → List ℕ
trimmed text = to_word (from_word text)

-- what stands before the first blank
abbrev pub up_to_blank : List ℕ → List ℕ
up_to_blank [] = []
up_to_blank (b ∷ bs) = if is_blank b then [] else b ∷ up_to_blank bs

-- the first blank, and what stands behind it
abbrev pub from_blank : List ℕ → List ℕ
from_blank [] = []
from_blank (b ∷ bs) = if is_blank b then b ∷ bs else from_blank bs

-- the first word of a text, empty where there is none
unfoldable pub word : List ℕ → List ℕ
word text = up_to_blank (from_word text)

-- what stands behind the first word
unfoldable pub behind : List ℕ → List ℕ
behind text = from_blank (from_word text)

abbrev pub lacks_word : List ℕ → Bool
lacks_word text = length (word text) == 0

abbrev pub is_hash : List ℕ → Bool
is_hash w = bytes_eq w (codes "#")

-- no word stands before `#`
abbrev pub lacks_head : List ℕ → Bool
lacks_head text = lacks_word text || is_hash (word text)

-- without the mark `# `
abbrev pub unmarked : List ℕ → List ℕ
unmarked text = if starts_with (λ a b. a == b) text (codes "# ") then drop 2 text else text

-- the note that a text is, without the blanks around, and without the mark and the blanks around that
unfoldable pub note_of : List ℕ → List ℕ
note_of text = trimmed (unmarked (from_word text))
