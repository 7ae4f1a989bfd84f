-- gitattributes(5) and gitignore(5), "PATTERN FORMAT": which paths fit a pattern.
use Rattle.std.specs.Prelude.{◌≡◌, ℕ, ◌==◌, Bool, true, false, if◌then◌else◌, List, [], ◌∷◌, Some, length, slice_index, ◌-◌}
use Rattle.std.specs.List.{list_any, after_last}
use Rattle.attr_rules.specs.declared.letter.Letter.{Letter}
use Rattle.attr_rules.specs.Letters.{letters_from}
use Rattle.attr_rules.specs.Pieces.{Piece, Cut, TakeAll}

-- the pieces of the letters take the text
abbrev pub Fits : List Letter → List ℕ → Type 0
Fits letters text = (ps : List Piece) × Cut true letters ps × TakeAll ps text

abbrev pub has_slash : List ℕ → Bool
has_slash bytes = list_any (λ b. b == 47) bytes

-- the last byte is `/`
abbrev pub ends_in_slash : List ℕ → Bool
ends_in_slash bytes = slice_index bytes (length bytes - 1) == 47

-- a leading `/` only says that the pattern holds for the whole path
abbrev pub without_slash : List ℕ → List ℕ
without_slash [] = []
without_slash (b ∷ bs) = if b == 47 then bs else b ∷ bs

-- what a pattern is held against: the whole path, or its last part where the pattern has no `/`
abbrev pub looked_at : List ℕ → List ℕ → List ℕ
looked_at pattern path = if has_slash pattern then path else after_last (λ b. b == 47) path

-- A path below the folder of a rule file fits a pattern there. One that ends in `/` is for folders alone.
pub record Matches (pattern path : List ℕ) : Type 0 where
  pub for_files : ends_in_slash pattern ≡ false
  pub letters : List Letter
  pub spelled : letters_from false (without_slash pattern) ≡ Some letters
  pub fits : Fits letters (looked_at pattern path)
