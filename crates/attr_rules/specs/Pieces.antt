-- gitignore(5), "PATTERN FORMAT": the pieces of a pattern, and the bytes of a path that each takes.
use Rattle.std.specs.Prelude.{◌≡◌, ℕ, Bool, true, false, not, ◌&&◌, ◌||◌, ◌==◌, nat_le, ◌+◌, take, drop, position, if◌then◌else◌, List, [], ◌∷◌, ◌++◌, Option, Some, None}
use Rattle.std.specs.List.{list_all}
use Rattle.std.proofs.Common.{◌⊎◌}
use Rattle.attr_rules.specs.declared.letter.Letter.{Letter}
use Rattle.attr_rules.specs.Letters.{is_plain}

-- a byte; a byte but `/`; a byte of a set, or of all others; bytes but `/`; folders, each with its `/`; any bytes
pub data Piece : Type 0 where
  Byte : ℕ → Piece
  AnyByte : Piece
  OneOf : Bool → List Letter → Piece
  Star : Piece
  Folders : Piece
  Everything : Piece

-- a byte stands in a set, or between two that `-` joins there
abbrev pub is_member : List Letter → ℕ → Bool
is_member [] b = false
is_member (low ∷ []) b = low.byte == b
is_member (low ∷ dash ∷ []) b = (low.byte == b) || (dash.byte == b)
is_member (low ∷ dash ∷ high ∷ rest) b =
    (low.byte == b)
    || (if is_plain dash 45 then (nat_le low.byte b && nat_le b high.byte) || is_member rest b
    else is_member (dash ∷ high ∷ rest) b)

-- a byte is of a set, or of all but a set
abbrev pub fits_set : Bool → List Letter → ℕ → Bool
fits_set negated members b = if negated then not (is_member members b) else is_member members b

-- the text that a piece takes
abbrev pub Takes : Piece → List ℕ → Type 0
Takes (Byte c) text = text ≡ c ∷ []
Takes AnyByte text = (b : ℕ) × (not (b == 47) ≡ true) × (text ≡ b ∷ [])
Takes (OneOf negated members) text = (b : ℕ) × (fits_set negated members b ≡ true) × (text ≡ b ∷ [])
Takes Star text = list_all (λ b. not (b == 47)) text ≡ true
Takes Folders text = (text ≡ []) ⊎ ((folders : List ℕ) × (text ≡ folders ++ 47 ∷ []))
Takes Everything text = Unit {0}

-- one piece after the other takes its part of the text
abbrev pub TakeAll : List Piece → List ℕ → Type 0
TakeAll [] text = text ≡ []
TakeAll (p ∷ ps) text = (front : List ℕ) × (rest : List ℕ) × Takes p front × TakeAll ps rest × (text ≡ front ++ rest)

-- ---- how a pattern is cut into pieces

-- a piece, and what stands behind it
abbrev pub cut : Piece → List Letter → Option (Piece × List Letter)
cut piece behind = Some (piece, behind)

-- A star has been read. In front and behind a `/`, `**/` takes folders, and `**` at the end everything.
abbrev pub star_at : Bool → List Letter → Option (Piece × List Letter)
star_at begins [] = cut Star []
star_at begins (a ∷ []) = if begins && is_plain a 42 then cut Everything [] else cut Star (a ∷ [])
star_at begins (a ∷ b ∷ rest) =
    if begins && is_plain a 42 && is_plain b 47 then cut Folders rest else cut Star (a ∷ b ∷ rest)

-- A set goes on to the first plain `]` behind its first byte.
abbrev pub set_up_to : Bool → List Letter → Option ℕ → Option (Piece × List Letter)
set_up_to negated letters None = None
set_up_to negated letters (Some n) = cut (OneOf negated (take (n + 1) letters)) (drop (n + 2) letters)

abbrev pub set_at : Bool → List Letter → Option (Piece × List Letter)
set_at negated [] = None
set_at negated (first ∷ rest) = set_up_to negated (first ∷ rest) (position (λ a. is_plain a 93) rest)

-- `!` or `^` in front takes the other bytes
abbrev pub set_or_others_at : List Letter → Option (Piece × List Letter)
set_or_others_at [] = None
set_or_others_at (a ∷ rest) = if is_plain a 33 || is_plain a 94 then set_at true rest else set_at false (a ∷ rest)

-- the first piece, where the letters stand in front or behind a `/`, or elsewhere
abbrev pub piece_at : Bool → List Letter → Option (Piece × List Letter)
piece_at begins [] = None
piece_at begins (a ∷ rest) =
    if is_plain a 42 then star_at begins rest
    else if is_plain a 63 then cut AnyByte rest
    else if is_plain a 91 then set_or_others_at rest
    else cut (Byte a.byte) rest

-- a part of a path begins behind it
abbrev pub ends_part : Piece → Bool
ends_part (Byte c) = c == 47
ends_part AnyByte = false
ends_part (OneOf negated members) = false
ends_part Star = false
ends_part Folders = true
ends_part Everything = false

-- the pieces of the letters, from the front
abbrev pub Cut : Bool → List Letter → List Piece → Type 0
Cut begins letters [] = letters ≡ []
Cut begins letters (p ∷ ps) = (behind : List Letter) × (piece_at begins letters ≡ Some (p, behind)) × Cut (ends_part p) behind ps
