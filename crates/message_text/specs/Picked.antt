-- What -x adds to a message (git-cherry-pick(1)), and the message of a revert (git-revert(1)).
use Rattle.std.specs.Prelude.{ℕ, ◌+◌, Bool, false, ◌||◌, ◌&&◌, ◌==◌, not, nat_lt, nat_eq, if◌then◌else◌, List, [], ◌∷◌, ◌++◌, length, drop, map, codes, Option, Some, None}
use Rattle.std.specs.Char.{is_ascii_alphanumeric}
use Rattle.std.specs.List.{list_all, position_or_len, starts_with}
use Rattle.hex.specs.Hex.{encode_lower}
use Rattle.message_text.specs.Lines.{lines, text_of, body}
use Rattle.message_text.specs.Paragraphs.{paragraphs}

-- the last, or another where there is none
abbrev pub last_or : {X : Type 0} → X → List X → X
last_or d [] = d
last_or d (x ∷ xs) = last_or x xs

abbrev pub is_name_byte : ℕ → Bool
is_name_byte b = is_ascii_alphanumeric b || b == 45

-- how many bytes of a name a line begins with
abbrev pub name_len : List ℕ → ℕ
name_len line = position_or_len (λ b. not (is_name_byte b)) line

-- a name of letters, digits and `-`, then `: ` and some text (git-interpret-trailers(1))
abbrev pub is_trailer : List ℕ → Bool
is_trailer line =
    let name = name_len line in
    nat_lt 0 name && starts_with nat_eq (drop name line) (codes ": ") && nat_lt (name + 2) (length line)

abbrev pub tells_of_pick : List ℕ → Bool
tells_of_pick line = starts_with nat_eq line (codes "(cherry picked from commit ")

abbrev pub is_trailer_line : List ℕ → Bool
is_trailer_line line = is_trailer line || tells_of_pick line

-- the last paragraph is not the first, and each of its lines is a trailer or tells of a pick
unfoldable pub has_trailers : List ℕ → Bool
has_trailers text = last_or false (map (list_all is_trailer_line) (drop 1 (paragraphs (lines text))))

-- the message of a commit that was picked with -x
unfoldable pub picked_text : List ℕ → List ℕ → List ℕ
picked_text text id =
    text_of (body text ∷ (if has_trailers (body text) then [] else [] ∷ [])
    ++ (codes "(cherry picked from commit " ++ encode_lower id ++ codes ")") ∷ [])

-- what a revert says of the commit, and of the parent that its changes were taken against
abbrev pub reverted_lines : List ℕ → Option (List ℕ) → List (List ℕ)
reverted_lines id None = (codes "This reverts commit " ++ encode_lower id ++ codes ".") ∷ []
reverted_lines id (Some parent) =
    (codes "This reverts commit " ++ encode_lower id ++ codes ", reversing")
    ∷ (codes "changes made to " ++ encode_lower parent ++ codes ".") ∷ []

-- the message of a commit that reverts one of that subject
unfoldable pub revert_text : List ℕ → List ℕ → Option (List ℕ) → List ℕ
revert_text subject id parent = text_of ((codes "Revert \"" ++ subject ++ codes "\"") ∷ [] ∷ reverted_lines id parent)
