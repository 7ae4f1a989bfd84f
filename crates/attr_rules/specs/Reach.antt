-- How far a path is taken: for each place of it, whether the pieces so far may end there.
use Rattle.std.specs.Prelude.{ℕ, Bool, true, false, not, ◌&&◌, ◌||◌, ◌==◌, List, [], ◌∷◌, map}
use Rattle.attr_rules.specs.Pieces.{Piece, Byte, AnyByte, OneOf, Star, Folders, Everything, fits_set}

-- it may take nothing
abbrev pub may_be_empty : Piece → Bool
may_be_empty (Byte c) = false
may_be_empty AnyByte = false
may_be_empty (OneOf negated members) = false
may_be_empty Star = true
may_be_empty Folders = true
may_be_empty Everything = true

-- it may take a byte as its last
abbrev pub may_end : Piece → ℕ → Bool
may_end (Byte c) b = b == c
may_end AnyByte b = not (b == 47)
may_end (OneOf negated members) b = fits_set negated members b
may_end Star b = not (b == 47)
may_end Folders b = b == 47
may_end Everything b = true

-- it may take a byte, and one more
abbrev pub may_go_on : Piece → ℕ → Bool
may_go_on (Byte c) b = false
may_go_on AnyByte b = false
may_go_on (OneOf negated members) b = false
may_go_on Star b = not (b == 47)
may_go_on Folders b = true
may_go_on Everything b = true

-- the marks behind each byte, where a piece follows what made the marks, and has begun before the first or not
unfoldable pub later_marks : Piece → Bool → List Bool → List ℕ → List Bool
later_marks p begun [] path = []
later_marks p begun (mark ∷ marks) [] = []
later_marks p begun (mark ∷ marks) (b ∷ path) =
    ((may_be_empty p && mark) || (begun && may_end p b)) ∷ later_marks p (mark || (begun && may_go_on p b)) marks path

-- the same with the mark before the first byte
abbrev pub marks_behind : Piece → List Bool → List ℕ → List Bool
marks_behind p [] path = []
marks_behind p (mark ∷ marks) path = (may_be_empty p && mark) ∷ later_marks p mark marks path

-- before the first piece only the front may be reached
abbrev pub first_marks : List ℕ → List Bool
first_marks path = true ∷ map (λ _. false) path

-- ---- a piece and what follows it

-- a piece has begun, and takes at least one more byte before what is asked for
abbrev pub goes_on : Piece → (List ℕ → Bool) → List ℕ → Bool
goes_on p q [] = false
goes_on p q (b ∷ path) = (may_end p b && q path) || (may_go_on p b && goes_on p q path)

-- a piece and then what is asked for
abbrev pub followed : Piece → (List ℕ → Bool) → List ℕ → Bool
followed p q path = (may_be_empty p && q path) || goes_on p q path
