-- A line is read word by word: the line, else the first thing that is wrong with it.
use Rattle.std.specs.Prelude.{ℕ, not, if◌then◌else◌, List, codes, Option, Some, None, Result, Ok, Err}
use Rattle.std.specs.Str.{bytes_eq}
use Rattle.todo_text.specs.declared.line.Line.{Line}
use Rattle.todo_text.specs.declared.line.Line.TheVariants as line
use Rattle.todo_text.specs.declared.line.PickKind.{PickKind}
use Rattle.todo_text.specs.declared.line.PickKind.TheVariants as kind
use Rattle.todo_text.specs.declared.line.MergeHow.{MergeHow}
use Rattle.todo_text.specs.declared.line.MergeHow.TheVariants.{Plain, Keep, Reword}
use Rattle.todo_text.specs.declared.todo_kind.TodoKind.{TodoKind}
use Rattle.todo_text.specs.declared.todo_kind.TodoKind.TheVariants as fault
use Rattle.todo_text.specs.declared.command.Command.{Command}
use Rattle.todo_text.specs.declared.command.Command.TheVariants.{Pick, Fixup, Exec, Break, Noop, Label, Reset, Merge, UpdateRef}
use Rattle.todo_text.specs.Words.{from_word, trimmed, word, behind, lacks_word, lacks_head, is_hash, note_of}
use Rattle.todo_text.specs.Names.{is_label, is_updatable}
use Rattle.todo_text.specs.Commands.{command_of}

infixl 10 ◌>>=◌
abbrev pub ◌>>=◌ : {A B : Type 0} → Result A TodoKind → (A → Result B TodoKind) → Result B TodoKind
(Ok x) >>= f = f x
(Err kind) >>= f = Err kind

-- a commit and a note
unfoldable pub rev_line : PickKind → List ℕ → Result Line TodoKind
rev_line kind text =
    if lacks_word text then Err fault.Missing
    else Ok (line.Pick kind (word text) (note_of (behind text)))

unfoldable pub fixup_line : List ℕ → Result Line TodoKind
fixup_line text =
    if bytes_eq (word text) (codes "-C") then rev_line kind.FixupKeep (behind text)
    else if bytes_eq (word text) (codes "-c") then rev_line kind.FixupEdit (behind text)
    else rev_line kind.Fixup text

unfoldable pub exec_line : List ℕ → Result Line TodoKind
exec_line text = if lacks_word text then Err fault.Missing else Ok (line.Exec (from_word text))

-- nothing more
unfoldable pub lone_line : Line → List ℕ → Result Line TodoKind
lone_line line text = if not (lacks_word text) then Err fault.Extra else Ok line

-- one word and nothing more
unfoldable pub lone_word : List ℕ → Result (List ℕ) TodoKind
lone_word text =
    if lacks_word text then Err fault.Missing
    else if not (lacks_word (behind text)) then Err fault.Extra
    else Ok (word text)

unfoldable pub label_line : List ℕ → Result Line TodoKind
label_line text = do
  name ← lone_word text
  if not (is_label name) then Err fault.Label else Ok (line.Label name)

unfoldable pub update_line : List ℕ → Result Line TodoKind
update_line text = do
  name ← lone_word text
  if not (is_updatable name) then Err fault.RefName else Ok (line.UpdateRef name)

unfoldable pub reset_line : List ℕ → Result Line TodoKind
reset_line text =
    if lacks_word text then Err fault.Missing
    else Ok (line.Reset (word text) (note_of (behind text)))

-- nothing, or `#` and a note
unfoldable pub merge_note : List ℕ → Result (List ℕ) TodoKind
merge_note text =
    if lacks_word text then Ok (word text)
    else if is_hash (word text) then Ok (trimmed (behind text))
    else Err fault.Octopus

unfoldable pub head_line : MergeHow → List ℕ → Result Line TodoKind
head_line how text =
    if lacks_head text then Err fault.Missing
    else merge_note (behind text) >>= λ note. Ok (line.Merge how (word text) note)

unfoldable pub keep_line : List ℕ → Result Line TodoKind
keep_line text = if lacks_word text then Err fault.Missing else head_line (Keep (word text)) (behind text)

unfoldable pub reword_line : List ℕ → Result Line TodoKind
reword_line text = if lacks_word text then Err fault.Missing else head_line (Reword (word text)) (behind text)

unfoldable pub merge_line : List ℕ → Result Line TodoKind
merge_line text =
    if bytes_eq (word text) (codes "-C") then keep_line (behind text)
    else if bytes_eq (word text) (codes "-c") then reword_line (behind text)
    else head_line Plain text

unfoldable pub arguments_line : Command → List ℕ → Result Line TodoKind
arguments_line (Pick kind) text = rev_line kind text
arguments_line Fixup text = fixup_line text
arguments_line Exec text = exec_line text
arguments_line Break text = lone_line line.Break text
arguments_line Noop text = lone_line line.Noop text
arguments_line Label text = label_line text
arguments_line Reset text = reset_line text
arguments_line Merge text = merge_line text
arguments_line UpdateRef text = update_line text

abbrev pub with_command : Option Command → List ℕ → Result Line TodoKind
with_command None text = Err fault.Command
with_command (Some command) text = arguments_line command text

unfoldable pub line_of : List ℕ → Result Line TodoKind
line_of text = with_command (command_of (word text)) (behind text)
