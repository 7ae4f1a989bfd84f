-- What `git stripspace --strip-comments` leaves of a text (git-stripspace(1)).
use Rattle.std.specs.Prelude.{◌≡◌, ◌≢◌, ◌⊎◌, ℕ, Bool, false, not, ◌==◌, List, [], ◌∷◌, ◌++◌, filter, map, All}
use Rattle.message_text.specs.Lines.{lines, text_of, without_blanks}
use Rattle.message_text.specs.Paragraphs.{paragraphs, spaced}

-- a line that begins with `#`
abbrev pub is_comment : List ℕ → Bool
is_comment [] = false
is_comment (b ∷ line) = b == 35

-- the lines that stay, without the blanks at their ends
abbrev pub own_lines : List (List ℕ) → List (List ℕ)
own_lines ls = map without_blanks (filter (λ l. not (is_comment l)) ls)

-- the paragraphs that stay, with an empty line between each two
unfoldable pub cleaned : List ℕ → List ℕ
cleaned text = text_of (spaced (paragraphs (own_lines (lines text))))

-- empty or ended by one line feed; no line begins with `#` or ends in blanks, and no two empty lines follow each other
pub record IsClean (text : List ℕ) : Type 0 where
  pub ended : (text ≡ []) ⊎ ((front : List ℕ) × (last : ℕ) × (text ≡ front ++ last ∷ 10 ∷ []) × (last ≢ 10))
  pub no_comment : All (λ line. is_comment line ≡ false) (lines text)
  pub no_blanks : All (λ line. without_blanks line ≡ line) (lines text)
  pub no_gap : (front back : List (List ℕ)) → lines text ≡ front ++ [] ∷ [] ∷ back → ⊥

-- the text stands in the whole, byte for byte
abbrev pub StandsIn : List ℕ → List ℕ → Type 0
StandsIn part whole = (front : List ℕ) × (back : List ℕ) × (whole ≡ front ++ (part ++ back))
