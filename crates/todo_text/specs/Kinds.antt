-- What is wrong with a line of the todo: the first of a list of kinds that applies to its text.
use Rattle.std.specs.Prelude.{ℕ, Bool, true, false, not, ◌&&◌, ◌||◌, if◌then◌else◌, List, [], ◌∷◌, Option, Some, None, is_none}
use Rattle.std.specs.List.{find}
use Rattle.todo_text.specs.declared.line.PickKind.{PickKind}
use Rattle.todo_text.specs.declared.line.PickKind.TheVariants as kind
use Rattle.todo_text.specs.declared.todo_kind.TodoKind.{TodoKind}
use Rattle.todo_text.specs.declared.todo_kind.TodoKind.TheVariants as fault
use Rattle.todo_text.specs.declared.command.Command.{Command}
use Rattle.todo_text.specs.declared.command.Command.TheVariants.{Pick, Fixup, Exec, Break, Noop, Label, Reset, Merge, UpdateRef}
use Rattle.todo_text.specs.Words.{word, behind, lacks_word, lacks_head, is_hash}
use Rattle.todo_text.specs.Names.{is_label, is_updatable}
use Rattle.todo_text.specs.Commands.{command_of}
use Rattle.todo_text.specs.Spells.{is_option}

-- Each test is given the command, and the text behind it.

-- `-C` or `-c`
abbrev pub has_option : List ℕ → Bool
has_option text = is_option (word text)

-- a word that does not begin a note stands behind the head
abbrev pub has_second_head : List ℕ → Bool
has_second_head text = not (lacks_word (behind text)) && not (is_hash (word (behind text)))

-- an argument is missing: the commit, the command, the name or the head
abbrev pub is_missing : Command → List ℕ → Bool
is_missing (Pick k) text = lacks_word text
is_missing Fixup text = if has_option text then lacks_word (behind text) else lacks_word text
is_missing Exec text = lacks_word text
is_missing Break text = false
is_missing Noop text = false
is_missing Label text = lacks_word text
is_missing Reset text = lacks_word text
is_missing Merge text = if has_option text then lacks_word (behind text) || lacks_head (behind (behind text)) else lacks_head text
is_missing UpdateRef text = lacks_word text

-- break or noop has an argument, or label or update-ref has more than one
abbrev pub is_extra : Command → List ℕ → Bool
is_extra (Pick k) text = false
is_extra Fixup text = false
is_extra Exec text = false
is_extra Break text = not (lacks_word text)
is_extra Noop text = not (lacks_word text)
is_extra Label text = not (lacks_word (behind text))
is_extra Reset text = false
is_extra Merge text = false
is_extra UpdateRef text = not (lacks_word (behind text))

abbrev pub is_bad_label : Command → List ℕ → Bool
is_bad_label (Pick k) text = false
is_bad_label Fixup text = false
is_bad_label Exec text = false
is_bad_label Break text = false
is_bad_label Noop text = false
is_bad_label Label text = not (is_label (word text))
is_bad_label Reset text = false
is_bad_label Merge text = false
is_bad_label UpdateRef text = false

abbrev pub is_bad_ref : Command → List ℕ → Bool
is_bad_ref (Pick k) text = false
is_bad_ref Fixup text = false
is_bad_ref Exec text = false
is_bad_ref Break text = false
is_bad_ref Noop text = false
is_bad_ref Label text = false
is_bad_ref Reset text = false
is_bad_ref Merge text = false
is_bad_ref UpdateRef text = not (is_updatable (word text))

-- two heads stand before `#`
abbrev pub is_octopus : Command → List ℕ → Bool
is_octopus (Pick k) text = false
is_octopus Fixup text = false
is_octopus Exec text = false
is_octopus Break text = false
is_octopus Noop text = false
is_octopus Label text = false
is_octopus Reset text = false
is_octopus Merge text = if has_option text then has_second_head (behind (behind text)) else has_second_head text
is_octopus UpdateRef text = false

abbrev pub is_squash : PickKind → Bool
is_squash kind.Pick = false
is_squash kind.Reword = false
is_squash kind.Edit = false
is_squash kind.Squash = true
is_squash kind.Fixup = true
is_squash kind.FixupKeep = true
is_squash kind.FixupEdit = true
is_squash kind.Drop = false
is_squash kind.Revert = false

-- squash and fixup want an earlier line
abbrev pub wants_earlier : Command → Bool
wants_earlier (Pick k) = is_squash k
wants_earlier Fixup = true
wants_earlier Exec = false
wants_earlier Break = false
wants_earlier Noop = false
wants_earlier Label = false
wants_earlier Reset = false
wants_earlier Merge = false
wants_earlier UpdateRef = false

abbrev pub if_command : Option Command → (Command → Bool) → Bool
if_command None test = false
if_command (Some command) test = test command

-- A kind applies to a line, before which there is an earlier line to squash into or not. The last four are not told by the text.
abbrev pub applies : Bool → List ℕ → TodoKind → Bool
applies earlier text fault.Command = is_none (command_of (word text))
applies earlier text fault.Missing = if_command (command_of (word text)) (λ c. is_missing c (behind text))
applies earlier text fault.Extra = if_command (command_of (word text)) (λ c. is_extra c (behind text))
applies earlier text fault.Label = if_command (command_of (word text)) (λ c. is_bad_label c (behind text))
applies earlier text fault.RefName = if_command (command_of (word text)) (λ c. is_bad_ref c (behind text))
applies earlier text fault.Octopus = if_command (command_of (word text)) (λ c. is_octopus c (behind text))
applies earlier text fault.NoEarlier = if_command (command_of (word text)) (λ c. wants_earlier c && not earlier)
applies earlier text fault.NoSuchCommit = false
applies earlier text fault.MergePicked = false
applies earlier text fault.OwnBranch = false
applies earlier text fault.NotBuilt = false

abbrev pub kinds : List TodoKind
kinds =
    fault.Command ∷ fault.Missing ∷ fault.Extra ∷ fault.Label ∷ fault.RefName ∷ fault.Octopus ∷ fault.NoEarlier ∷ []

-- the first that applies
unfoldable pub first_kind : Bool → List ℕ → Option TodoKind
first_kind earlier text = find (applies earlier text) kinds
