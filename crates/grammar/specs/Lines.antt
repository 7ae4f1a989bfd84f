-- Lines, each with the line feed that ends it (POSIX.1-2017, 3.206), and a last one that may lack it. They are counted from 1.
use Rattle.std.specs.Prelude.{◌≡◌, ℕ, zero, suc, ◌<◌, ◌==◌, ◌⊎◌, if◌then◌else◌, List, [], ◌∷◌, length}
use Rattle.grammar.specs.Grammar.{GoesOn}

-- the first n lines
abbrev pub first_lines : ℕ → List ℕ → List ℕ
first_lines n [] = []
first_lines zero (b ∷ bs) = []
first_lines (suc n) (b ∷ bs) = if b == 10 then b ∷ first_lines n bs else b ∷ first_lines (suc n) bs

-- the number of the line that has the byte at a place, or of the last one where the place is the end
abbrev pub line_of_place : ℕ → List ℕ → ℕ
line_of_place place [] = 1
line_of_place place (b ∷ []) = 1
line_of_place zero (b ∷ c ∷ bs) = 1
line_of_place (suc place) (b ∷ c ∷ bs) = if b == 10 then suc (line_of_place place (c ∷ bs)) else line_of_place place (c ∷ bs)

-- Bytes that are no text of the grammar: the first line with which no text goes on, or their last line where they end too early.
pub record IsFirstBadLine {X : Type 0} (spells : X → List ℕ → Type 0) (bytes : List ℕ) (line : ℕ) : Type 0 where
  pub goes_on : (n : ℕ) → n < line → GoesOn spells (first_lines n bytes)
  pub no_further : (GoesOn spells (first_lines line bytes) → ⊥) ⊎ (GoesOn spells bytes × (line ≡ line_of_place (length bytes) bytes))
  pub no_text : (x : X) → spells x bytes → ⊥
