-- What each command on index, files and objects does, answers and prints.
use Rattle.std.specs.Prelude.{Bool, true, false, [], Option}
use Rattle.seq_base.specs.Words.{Id}
use Rattle.seq_outside.specs.Turns.{Turn, ◌>>=◌, gives, looks}
use Rattle.seq_model.specs.Unbuilt.{not_built}
use Rattle.seq_model.specs.declared.command.PlumbWords.{PlumbWords}
use Rattle.seq_model.specs.declared.command.PlumbWords.TheVariants.{Init, Add, Rm, Commit, Status, Cat}
use Rattle.seq_model.specs.declared.denial.Denial.{Denial}
use Rattle.seq_model.specs.declared.reply.Reply.{Reply}
use Rattle.seq_plumb.specs.Adding.{added}
use Rattle.seq_plumb.specs.Initing.{inited}
use Rattle.seq_plumb.specs.Printing.{printed_object}
use Rattle.seq_plumb.specs.Removing.{removed_named}

-- the command's report is all that is printed
abbrev pub quiet_reply : Option Id → Reply
quiet_reply head = record { head = head; own = [] }

abbrev pub quietly : Turn Denial (Option Id) → Turn Denial Reply
quietly step = do
  head ← step
  gives (quiet_reply head)

-- what a command does, answers and prints itself
abbrev pub plumbed : PlumbWords → Turn Denial Reply
plumbed Init = quietly inited
plumbed (Add paths) = quietly (added paths)
plumbed (Rm paths) = quietly (removed_named paths)
plumbed (Commit amend message) = looks not_built
plumbed Status = looks not_built
plumbed (Cat word) = looks (printed_object word)

-- it prints a text of its own in the place of `done`
abbrev pub prints_own : PlumbWords → Bool
prints_own Init = false
prints_own (Add paths) = false
prints_own (Rm paths) = false
prints_own (Commit amend message) = false
prints_own Status = true
prints_own (Cat word) = true
