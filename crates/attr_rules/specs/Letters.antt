-- gitignore(5), "PATTERN FORMAT", which gitattributes(5) takes over: in a pattern `\` quotes the byte behind it.
use Rattle.std.specs.Prelude.{ℕ, Bool, true, false, not, ◌&&◌, ◌==◌, if◌then◌else◌, List, [], ◌∷◌, ◌++◌, Option, Some, None}
use Rattle.std.specs.Option.{option_map}
use Rattle.attr_rules.specs.declared.letter.Letter.{Letter}

-- it is this byte, and not quoted
abbrev pub is_plain : Letter → ℕ → Bool
is_plain letter byte = not letter.quoted && (letter.byte == byte)

-- these stand in front
abbrev pub led_by : {X : Type 0} → List X → Option (List X) → Option (List X)
led_by front rest = option_map (λ xs. front ++ xs) rest

-- the letters of a pattern, of which the first is quoted or not; none where `\` stands last
abbrev pub letters_from : Bool → List ℕ → Option (List Letter)
letters_from quoted [] = if quoted then None else Some []
letters_from quoted (b ∷ bs) =
    if not quoted && (b == 92) then letters_from true bs
    else led_by (record { byte = b; quoted = quoted } ∷ []) (letters_from false bs)
