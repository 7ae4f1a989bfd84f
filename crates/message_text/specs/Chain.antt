-- The text of a squash chain, and the message that a chain of `fixup -C` keeps (git-rebase(1), "squash" and "fixup").
use Rattle.std.specs.Prelude.{◌≡◌, ℕ, ◌+◌, Bool, true, false, not, ◌&&◌, ◌||◌, ◌==◌, nat_eq, if◌then◌else◌, List, [], ◌∷◌, ◌++◌, length, map, filter, codes, All, decimal}
use Rattle.std.specs.List.{list_all, starts_with, join_with_byte}
use Rattle.message_text.specs.declared.chain.ChainItem.{ChainItem}
use Rattle.message_text.specs.Kinds.{is_first, is_squash, is_fixup}
use Rattle.message_text.specs.Lines.{lines, text_of, is_empty, has_some, up_to, from, body}
use Rattle.message_text.specs.Paragraphs.{spaced, opening, first_paragraph, remainder, subject}
use Rattle.message_text.specs.Picked.{last_or}

-- the first item is a chain's first, and no other is
abbrev pub IsChain : List ChainItem → Type 0
IsChain [] = ⊥
IsChain (item ∷ after) = (is_first item.kind ≡ true) × All (λ later. is_first later.kind ≡ false) after

-- an item in its chain: whether it is a squash or stands behind one, and whether its message is kept
pub record Place : Type 0 where
  pub item : ChainItem
  pub is_squashed : Bool
  pub is_kept : Bool

-- a message is kept, but never a fixup's, where a squash has come, or where up to the next squash only fixups follow
unfoldable pub is_kept_before : Bool → ChainItem → List ChainItem → Bool
is_kept_before is_squashed item after =
    not (is_fixup item.kind) && (is_squashed || list_all (λ later. is_fixup later.kind) (up_to (λ later. is_squash later.kind) after))

abbrev pub place_of : Bool → Bool → ChainItem → Place
place_of is_squashed is_kept item = record { item = item; is_squashed = is_squashed; is_kept = is_kept }

-- the places of items behind a squash, or not
abbrev pub places_from : Bool → List ChainItem → List Place
places_from had_squash [] = []
places_from had_squash (item ∷ after) =
    let is_squashed = had_squash || is_squash item.kind in
    place_of is_squashed (is_kept_before is_squashed item after) item ∷ places_from is_squashed after

abbrev pub places : List ChainItem → List Place
places items = places_from false items

-- the subject says what the commit is for, not what the message is to be
unfoldable pub is_marked_subject : Bool → List ℕ → Bool
is_marked_subject is_squashed line =
    starts_with nat_eq line (codes "amend! ")
    || (is_squashed && (starts_with nat_eq line (codes "squash! ") || starts_with nat_eq line (codes "fixup! ")))

-- the first paragraph of its message is no part of what is kept
unfoldable pub is_marked : Place → Bool
is_marked place =
    not (is_first place.item.kind) && not (is_fixup place.item.kind) && is_marked_subject place.is_squashed (subject place.item.message)

abbrev pub body_lines : Place → List (List ℕ)
body_lines place = lines (body place.item.message)

-- a line as a comment
abbrev pub commented : List ℕ → List ℕ
commented line = if is_empty line then codes "#" else codes "# " ++ line

-- lines with those of their first paragraph as comments
unfoldable pub with_first_commented : List (List ℕ) → List (List ℕ)
with_first_commented ls = opening ls ++ map commented (first_paragraph ls) ++ remainder ls

-- lines without their first paragraph and the empty lines behind that
unfoldable pub without_first : List (List ℕ) → List (List ℕ)
without_first ls = opening ls ++ from has_some (remainder ls)

-- the lines of a message in the text: as comments where it is not kept, and its marked paragraph in any case
unfoldable pub shown_lines : Place → List (List ℕ)
shown_lines place =
    if not place.is_kept then map commented (body_lines place)
    else if is_marked place then with_first_commented (body_lines place)
    else body_lines place

unfoldable pub header : ℕ → Bool → List ℕ
header number is_kept =
    if number == 1 then (if is_kept then codes "# This is the 1st commit message:" else codes "# The 1st commit message will be skipped:")
    else if is_kept then codes "# This is the commit message #" ++ decimal number ++ codes ":"
    else codes "# The commit message #" ++ decimal number ++ codes " will be skipped:"

-- what a place has in the text
abbrev pub section : ℕ → Place → List (List ℕ)
section number place = header number place.is_kept ∷ [] ∷ shown_lines place

-- the sections of places that are numbered from there on
abbrev pub sections_from : ℕ → List Place → List (List (List ℕ))
sections_from number [] = []
sections_from number (place ∷ after) = (header number place.is_kept ∷ [] ∷ shown_lines place) ∷ sections_from (number + 1) after

unfoldable pub count_line : ℕ → List ℕ
count_line count = codes "# This is a combination of " ++ decimal count ++ codes " commits."

-- the text that a chain is edited in
unfoldable pub chain_text : List ChainItem → List ℕ
chain_text items = text_of (count_line (length items) ∷ spaced (sections_from 1 (places items)))

-- the lines of a message without its marked paragraph and the empty lines behind that
abbrev pub kept_lines : Place → List (List ℕ)
kept_lines place = if is_marked place then without_first (body_lines place) else body_lines place

-- what a chain keeps of the message of a place
unfoldable pub kept_message : Place → List ℕ
kept_message place = if is_first place.item.kind then place.item.message else join_with_byte 10 (kept_lines place) ++ 10 ∷ []

-- the message of a chain that no one edits: that of the last place that is kept
unfoldable pub kept_text : List ChainItem → List ℕ
kept_text items = last_or [] (map kept_message (filter (λ place. place.is_kept) (places items)))
