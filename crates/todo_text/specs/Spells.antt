-- Which texts spell which line of the todo (git-rebase(1), "INTERACTIVE MODE" and "REBASING MERGES"). A text is what stands in front
-- of a line's end.
use Rattle.std.specs.Prelude.{◌≡◌, ◌⊎◌, ℕ, Bool, true, false, not, ◌&&◌, ◌||◌, ◌==◌, ◌-◌, if◌then◌else◌, List, [], ◌∷◌, ◌++◌, length, codes, slice_index}
use Rattle.std.specs.List.{list_all}
use Rattle.std.specs.Str.{bytes_eq}
use Rattle.todo_text.specs.declared.line.Line.{Line}
use Rattle.todo_text.specs.declared.line.Line.TheVariants.{Pick, Exec, Break, Noop, Label, Reset, Merge, UpdateRef}
use Rattle.todo_text.specs.declared.line.PickKind.{PickKind}
use Rattle.todo_text.specs.declared.line.PickKind.TheVariants as kind
use Rattle.todo_text.specs.declared.line.MergeHow.{MergeHow}
use Rattle.todo_text.specs.declared.line.MergeHow.TheVariants.{Plain, Keep, Reword}
use Rattle.todo_text.specs.Words.{is_hash, unmarked}
use Rattle.todo_text.specs.Names.{is_label, is_updatable}
use Rattle.seq_base.specs.Blanks.{is_blank}

-- ---- words and notes

abbrev pub AreBlanks : List ℕ → Type 0
AreBlanks text = list_all is_blank text ≡ true

-- some bytes, and no blank
abbrev pub IsWord : List ℕ → Type 0
IsWord w = (length w == 0 ≡ false) × (list_all (λ b. not (is_blank b)) w ≡ true)

abbrev pub begins_blank : List ℕ → Bool
begins_blank [] = false
begins_blank (b ∷ bs) = is_blank b

abbrev pub ends_blank : List ℕ → Bool
ends_blank [] = false
ends_blank (b ∷ []) = is_blank b
ends_blank (b ∷ c ∷ bs) = ends_blank (c ∷ bs)

-- blanks, a word, and the rest, which is empty or begins with a blank
pub record Begins (text w rest : List ℕ) : Type 0 where
  pub front : List ℕ
  pub blanks : AreBlanks front
  pub is_word : IsWord w
  pub apart : (rest ≡ []) ⊎ (begins_blank rest ≡ true)
  pub whole : text ≡ front ++ (w ++ rest)

-- the same with several words
abbrev pub BeginsAll : List ℕ → List (List ℕ) → List ℕ → Type 0
BeginsAll text [] rest = text ≡ rest
BeginsAll text (w ∷ ws) rest = (between : List ℕ) × Begins text w between × BeginsAll between ws rest

-- blanks, and the rest, which begins with none
pub record Leads (text rest : List ℕ) : Type 0 where
  pub front : List ℕ
  pub blanks : AreBlanks front
  pub begins : begins_blank rest ≡ false
  pub whole : text ≡ front ++ rest

-- without the blanks around
pub record Trims (text kept : List ℕ) : Type 0 where
  pub front : List ℕ
  pub back : List ℕ
  pub before : AreBlanks front
  pub behind : AreBlanks back
  pub begins : begins_blank kept ≡ false
  pub ends : ends_blank kept ≡ false
  pub whole : text ≡ front ++ (kept ++ back)

-- without the blanks around, and without the mark `# ` and the blanks around that
pub record IsNote (text note : List ℕ) : Type 0 where
  pub marked : List ℕ
  pub leads : Leads text marked
  pub trims : Trims (unmarked marked) note

-- behind the head of a merge: nothing, or the word `#` and a note
abbrev pub IsMergeNote : List ℕ → List ℕ → Type 0
IsMergeNote text note =
    (AreBlanks text × (note ≡ [])) ⊎ ((rest : List ℕ) × Begins text (codes "#") rest × Trims rest note)

-- ---- lines

abbrev pub pick_word : PickKind → List ℕ
pick_word kind.Pick = codes "pick"
pick_word kind.Reword = codes "reword"
pick_word kind.Edit = codes "edit"
pick_word kind.Squash = codes "squash"
pick_word kind.Fixup = codes "fixup"
pick_word kind.FixupKeep = codes "fixup"
pick_word kind.FixupEdit = codes "fixup"
pick_word kind.Drop = codes "drop"
pick_word kind.Revert = codes "revert"

-- the word that a line begins with
abbrev pub command_word : Line → List ℕ
command_word (Pick k rev note) = pick_word k
command_word (Exec command) = codes "exec"
command_word Break = codes "break"
command_word Noop = codes "noop"
command_word (Label name) = codes "label"
command_word (Reset name note) = codes "reset"
command_word (Merge how head note) = codes "merge"
command_word (UpdateRef name) = codes "update-ref"

abbrev pub pick_letter : PickKind → List ℕ
pick_letter kind.Pick = codes "p"
pick_letter kind.Reword = codes "r"
pick_letter kind.Edit = codes "e"
pick_letter kind.Squash = codes "s"
pick_letter kind.Fixup = codes "f"
pick_letter kind.FixupKeep = codes "f"
pick_letter kind.FixupEdit = codes "f"
pick_letter kind.Drop = codes "d"
pick_letter kind.Revert = codes "revert"

-- what may stand in its place: its letter, where it has one
abbrev pub command_letter : Line → List ℕ
command_letter (Pick k rev note) = pick_letter k
command_letter (Exec command) = codes "x"
command_letter Break = codes "b"
command_letter Noop = codes "noop"
command_letter (Label name) = codes "l"
command_letter (Reset name note) = codes "t"
command_letter (Merge how head note) = codes "m"
command_letter (UpdateRef name) = codes "u"

abbrev pub pick_option : PickKind → List (List ℕ)
pick_option kind.Pick = []
pick_option kind.Reword = []
pick_option kind.Edit = []
pick_option kind.Squash = []
pick_option kind.Fixup = []
pick_option kind.FixupKeep = codes "-C" ∷ []
pick_option kind.FixupEdit = codes "-c" ∷ []
pick_option kind.Drop = []
pick_option kind.Revert = []

abbrev pub merge_option : MergeHow → List (List ℕ)
merge_option Plain = []
merge_option (Keep rev) = codes "-C" ∷ rev ∷ []
merge_option (Reword rev) = codes "-c" ∷ rev ∷ []

-- the words behind the command
abbrev pub arguments : Line → List (List ℕ)
arguments (Pick k rev note) = pick_option k ++ rev ∷ []
arguments (Exec command) = []
arguments Break = []
arguments Noop = []
arguments (Label name) = name ∷ []
arguments (Reset name note) = name ∷ []
arguments (Merge how head note) = merge_option how ++ head ∷ []
arguments (UpdateRef name) = name ∷ []

-- what stands behind these words
abbrev pub Ends : Line → List ℕ → Type 0
Ends (Pick k rev note) rest = IsNote rest note
Ends (Exec command) rest = (length command == 0 ≡ false) × Leads rest command
Ends Break rest = AreBlanks rest
Ends Noop rest = AreBlanks rest
Ends (Label name) rest = AreBlanks rest
Ends (Reset name note) rest = IsNote rest note
Ends (Merge how head note) rest = IsMergeNote rest note
Ends (UpdateRef name) rest = AreBlanks rest

abbrev pub is_option : List ℕ → Bool
is_option w = bytes_eq w (codes "-C") || bytes_eq w (codes "-c")

-- An option is no commit of a fixup and no head of a merge, and `#` is no head.
abbrev pub is_pick : PickKind → List ℕ → Bool
is_pick kind.Pick rev = true
is_pick kind.Reword rev = true
is_pick kind.Edit rev = true
is_pick kind.Squash rev = true
is_pick kind.Fixup rev = not (is_option rev)
is_pick kind.FixupKeep rev = true
is_pick kind.FixupEdit rev = true
is_pick kind.Drop rev = true
is_pick kind.Revert rev = true

abbrev pub is_head : MergeHow → List ℕ → Bool
is_head Plain head = not (is_option head) && not (is_hash head)
is_head (Keep rev) head = not (is_hash head)
is_head (Reword rev) head = not (is_hash head)

-- its names may stand where they do
abbrev pub is_fit : Line → Bool
is_fit (Pick k rev note) = is_pick k rev
is_fit (Exec command) = true
is_fit Break = true
is_fit Noop = true
is_fit (Label name) = is_label name
is_fit (Reset name note) = true
is_fit (Merge how head note) = is_head how head
is_fit (UpdateRef name) = is_updatable name

abbrev pub HasNoFeed : List ℕ → Type 0
HasNoFeed text = list_all (λ b. not (b == 10)) text ≡ true

-- A text spells a line: it has the line's command, by its word or its letter, the line's other words, and behind them its note
-- or what it runs.
pub record Spells (line : Line) (text : List ℕ) : Type 0 where
  pub one_line : HasNoFeed text
  pub command : List ℕ
  pub named : (command ≡ command_word line) ⊎ (command ≡ command_letter line)
  pub rest : List ℕ
  pub words : BeginsAll text (command ∷ arguments line) rest
  pub ends : Ends line rest
  pub fit : is_fit line ≡ true

-- some text spells it
pub record IsSpelled (line : Line) : Type 0 where
  pub text : List ℕ
  pub spells : Spells line text

-- ---- the one text that is written

-- each word behind a space
abbrev pub spaced : List (List ℕ) → List ℕ
spaced [] = []
spaced (w ∷ ws) = 32 ∷ (w ++ spaced ws)

abbrev pub note_text : List ℕ → List ℕ
note_text [] = []
note_text (b ∷ bs) = codes " # " ++ b ∷ bs

abbrev pub ending : Line → List ℕ
ending (Pick k rev note) = note_text note
ending (Exec command) = 32 ∷ command
ending Break = []
ending Noop = []
ending (Label name) = []
ending (Reset name note) = note_text note
ending (Merge how head note) = note_text note
ending (UpdateRef name) = []

-- the whole word, and one space before each word, the mark, and the note
unfoldable pub text_of : Line → List ℕ
text_of line = command_word line ++ (spaced (arguments line) ++ ending line)

abbrev pub ends_in_return : List ℕ → Bool
ends_in_return text = slice_index text (length text - 1) == 13

-- A line ends in LF. One CR before it belongs to the line's end, so a text that ends in CR has one more there.
abbrev pub line_end : List ℕ → List ℕ
line_end text = if ends_in_return text then 13 ∷ 10 ∷ [] else 10 ∷ []

unfoldable pub canonical : Line → List ℕ
canonical line = text_of line ++ line_end (text_of line)
