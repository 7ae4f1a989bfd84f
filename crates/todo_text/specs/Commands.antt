-- The commands of the todo (git-rebase(1), "INTERACTIVE MODE"), each by its word or its letter.
use Rattle.std.specs.Prelude.{ℕ, Bool, ◌||◌, if◌then◌else◌, List, Option, Some, None, codes}
use Rattle.std.specs.Str.{bytes_eq}
use Rattle.todo_text.specs.declared.line.PickKind.{PickKind}
use Rattle.todo_text.specs.declared.line.PickKind.TheVariants as kind
use Rattle.todo_text.specs.declared.command.Command.{Command}
use Rattle.todo_text.specs.declared.command.Command.TheVariants.{Pick, Fixup, Exec, Break, Noop, Label, Reset, Merge, UpdateRef}

abbrev pub is_named : List ℕ → List ℕ → List ℕ → Bool
is_named whole letter word = bytes_eq word whole || bytes_eq word letter

-- the commands that take a commit and a note
abbrev pub pick_of : List ℕ → Option PickKind
pick_of word =
    if is_named (codes "pick") (codes "p") word then Some kind.Pick
    else if is_named (codes "reword") (codes "r") word then Some kind.Reword
    else if is_named (codes "edit") (codes "e") word then Some kind.Edit
    else if is_named (codes "squash") (codes "s") word then Some kind.Squash
    else if is_named (codes "drop") (codes "d") word then Some kind.Drop
    else if bytes_eq word (codes "revert") then Some kind.Revert
    else None

-- the others
abbrev pub other_of : List ℕ → Option Command
other_of word =
    if is_named (codes "fixup") (codes "f") word then Some Fixup
    else if is_named (codes "exec") (codes "x") word then Some Exec
    else if is_named (codes "break") (codes "b") word then Some Break
    else if bytes_eq word (codes "noop") then Some Noop
    else if is_named (codes "label") (codes "l") word then Some Label
    else if is_named (codes "reset") (codes "t") word then Some Reset
    else if is_named (codes "merge") (codes "m") word then Some Merge
    else if is_named (codes "update-ref") (codes "u") word then Some UpdateRef
    else None

abbrev pub pick_or : Option PickKind → Option Command → Option Command
pick_or (Some kind) other = Some (Pick kind)
pick_or None other = other

-- the command of a word
unfoldable pub command_of : List ℕ → Option Command
command_of word = pick_or (pick_of word) (other_of word)
