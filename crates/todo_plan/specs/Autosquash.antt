-- Commits that are squashed into earlier ones (git-rebase(1), "--autosquash"; git-commit(1), "--fixup", "--squash").
use Rattle.std.specs.Prelude.{ℕ, ◌+◌, zero, suc, nat_eq, nat_le, ◌==◌, Bool, false, ◌||◌, if◌then◌else◌, List, [], ◌∷◌, ◌++◌, codes, drop, insert, length, map, Option, Some, None, Result, Ok, Err}
use Rattle.std.specs.List.{list_any, position_from, starts_with}
use Rattle.std.specs.Str.{bytes_eq}
use Rattle.hex.specs.Hex.{decode_of, encode_lower}
use Rattle.hex.specs.declared.FromHexError.{FromHexError}
use Rattle.merge_base.specs.declared.graph.Node.{Node}
use Rattle.merge_base.specs.Graphs.{node_at}
use Rattle.todo_text.specs.declared.line.Line.{Line}
use Rattle.todo_text.specs.declared.line.Line.TheVariants.{Pick, Exec, Break, Noop, Label, Reset, Merge, UpdateRef}
use Rattle.todo_text.specs.declared.line.PickKind.{PickKind}
use Rattle.todo_text.specs.declared.line.PickKind.TheVariants as kind
use Rattle.todo_plan.specs.declared.segments.Placed.{Placed}
use Rattle.todo_plan.specs.Groups.{is_pick}

-- ---- what a subject asks for

abbrev pub begins_with : List ℕ → List ℕ → Bool
begins_with text word = starts_with nat_eq text word

-- a commit is squashed as the first word of its subject says
abbrev pub squash_kind : List ℕ → Option PickKind
squash_kind subject =
    if begins_with subject (codes "fixup! ") then Some kind.Fixup
    else if begins_with subject (codes "squash! ") then Some kind.Squash
    else if begins_with subject (codes "amend! ") then Some kind.FixupKeep
    else None

-- how long such a word is
abbrev pub word_length : PickKind → ℕ
word_length kind.Pick = 0
word_length kind.Reword = 0
word_length kind.Edit = 0
word_length kind.Squash = 8
word_length kind.Fixup = 7
word_length kind.FixupKeep = 7
word_length kind.FixupEdit = 0
word_length kind.Drop = 0
word_length kind.Revert = 0

-- a text without the first such word
abbrev pub behind_word : Option PickKind → List ℕ → List ℕ
behind_word None text = text
behind_word (Some k) text = drop (word_length k) text

-- a text without so many such words at its front
abbrev pub without_words : ℕ → List ℕ → List ℕ
without_words zero text = text
without_words (suc n) text = without_words n (behind_word (squash_kind text) text)

-- the subject without all such words
abbrev pub target_text : List ℕ → List ℕ
target_text subject = without_words (length subject) subject

-- ---- which line it is squashed into

-- a commit that is picked: its hex digits and its subject
abbrev pub Row : Type 0
Row = List ℕ × List ℕ

abbrev pub row_of : Node → Row
row_of node = (encode_lower node.id, node.subject)

-- the number of the first row that passes
abbrev pub first_row : (Row → Bool) → List Row → Option ℕ
first_row test rows = position_from test 0 rows

abbrev pub or_else : Option ℕ → Option ℕ → Option ℕ
or_else None other = other
or_else (Some n) other = Some n

-- the first whose digits begin so, if there are four or more
abbrev pub with_digits : List Row → List ℕ → Option ℕ
with_digits rows text = if nat_le 4 (length text) then first_row (λ r. begins_with r.0 text) rows else None

abbrev pub with_subject : List Row → List ℕ → Option ℕ
with_subject rows text = first_row (λ r. bytes_eq r.1 text) rows

abbrev pub with_start : List Row → List ℕ → Option ℕ
with_start rows text = first_row (λ r. begins_with r.1 text) rows

-- the first with that subject, else the first whose digits begin so, if there are four or more, else the first whose subject begins so
abbrev pub target : List Row → List ℕ → Option ℕ
target rows text = or_else (with_subject rows text) (or_else (with_digits rows text) (with_start rows text))

-- how a commit is squashed, and into which of the picks before
abbrev pub Squash : Type 0
Squash = PickKind × ℕ

abbrev pub squash_into : PickKind → Option ℕ → Option Squash
squash_into k None = None
squash_into k (Some n) = Some (k, n)

abbrev pub squash_by : List Row → List ℕ → Option PickKind → Option Squash
squash_by rows subject None = None
squash_by rows subject (Some k) = squash_into k (target rows (target_text subject))

abbrev pub squash_of : List Row → List ℕ → Option Squash
squash_of rows subject = squash_by rows subject (squash_kind subject)

-- ---- where it is moved

abbrev pub renamed : PickKind → Line → Line
renamed k (Pick old rev note) = Pick k rev note
renamed k (Exec command) = Exec command
renamed k Break = Break
renamed k Noop = Noop
renamed k (Label name) = Label name
renamed k (Reset name note) = Reset name note
renamed k (Merge how head note) = Merge how head note
renamed k (UpdateRef name) = UpdateRef name

abbrev pub is_number : ℕ → Option ℕ → Bool
is_number n None = false
is_number n (Some m) = m == n

-- it is the pick of that number, or was moved behind it
abbrev pub belongs : ℕ → Placed → Bool
belongs n placed = is_number n placed.pick || is_number n placed.target

-- how many lines stand up to the last of these
abbrev pub up_to_last : ℕ → List Placed → ℕ
up_to_last n [] = 0
up_to_last n (p ∷ placed) = if list_any (belongs n) (p ∷ placed) then up_to_last n placed + 1 else 0

-- behind the last of those that belong to a pick
abbrev pub moved_at : ℕ → List Placed → Line → ℕ → List Placed
moved_at number placed line target = insert placed (up_to_last target placed) (record { line = line; pick = Some number; target = Some target })

abbrev pub placed_at : ℕ → List Placed → Line → Option Squash → List Placed
placed_at number placed line None = placed ++ record { line = line; pick = Some number; target = None } ∷ []
placed_at number placed line (Some s) = moved_at number placed (renamed s.0 line) s.1

abbrev pub with_line : List Placed → Line → List Placed
with_line placed line = placed ++ record { line = line; pick = None; target = None } ∷ []

-- ---- all lines

abbrev pub found_by : List Node → Result (List ℕ) FromHexError → Option Node
found_by graph (Ok id) = node_at graph id
found_by graph (Err e) = None

-- the commit whose forty hex digits these are
abbrev pub node_of : List Node → List ℕ → Option Node
node_of graph rev = if length rev == 40 then found_by graph (decode_of rev) else None

-- the commit of a line that picks one
abbrev pub picked : List Node → Line → Option Node
picked graph (Pick k rev note) = if is_pick k then node_of graph rev else None
picked graph (Exec command) = None
picked graph Break = None
picked graph Noop = None
picked graph (Label name) = None
picked graph (Reset name note) = None
picked graph (Merge how head note) = None
picked graph (UpdateRef name) = None

abbrev pub rows_with : List Row → Option Node → List Row
rows_with rows None = rows
rows_with rows (Some node) = rows ++ row_of node ∷ []

abbrev pub placed_with : List Row → List Placed → Line → Option Node → List Placed
placed_with rows placed line None = with_line placed line
placed_with rows placed line (Some node) = placed_at (length rows) placed line (squash_of rows node.subject)

abbrev pub squashed : List Node → List Row → List Placed → List Line → List Line
squashed graph rows placed [] = map (λ p. p.line) placed
squashed graph rows placed (line ∷ lines) =
    squashed graph (rows_with rows (picked graph line)) (placed_with rows placed line (picked graph line)) lines

-- the lines, each commit that asks for it moved behind its target and renamed
abbrev pub autosquashed : List Node → List Line → List Line
autosquashed graph lines = squashed graph [] [] lines

-- a line as it was before it was renamed
abbrev pub as_pick : Line → Line
as_pick (Pick kind.Pick rev note) = Pick kind.Pick rev note
as_pick (Pick kind.Reword rev note) = Pick kind.Reword rev note
as_pick (Pick kind.Edit rev note) = Pick kind.Edit rev note
as_pick (Pick kind.Squash rev note) = Pick kind.Pick rev note
as_pick (Pick kind.Fixup rev note) = Pick kind.Pick rev note
as_pick (Pick kind.FixupKeep rev note) = Pick kind.Pick rev note
as_pick (Pick kind.FixupEdit rev note) = Pick kind.FixupEdit rev note
as_pick (Pick kind.Drop rev note) = Pick kind.Drop rev note
as_pick (Pick kind.Revert rev note) = Pick kind.Revert rev note
as_pick (Exec command) = Exec command
as_pick Break = Break
as_pick Noop = Noop
as_pick (Label name) = Label name
as_pick (Reset name note) = Reset name note
as_pick (Merge how head note) = Merge how head note
as_pick (UpdateRef name) = UpdateRef name
