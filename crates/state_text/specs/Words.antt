-- The words of the file `control`.
use Rattle.std.specs.Prelude.{Bool, if◌then◌else◌, codes}
use Rattle.seq_base.specs.Words.{Text}
use Rattle.state_text.specs.declared.options.Empty.{Empty}
use Rattle.state_text.specs.declared.options.Empty.TheVariants.{Drop, Keep, Stop}
use Rattle.state_text.specs.declared.stop_word.StopWord.{StopWord}
use Rattle.state_text.specs.declared.stop_word.StopWord.TheVariants as stop
use Rattle.state_text.specs.declared.verb.Verb.{Verb}
use Rattle.state_text.specs.declared.verb.Verb.TheVariants.{Rebase, CherryPick, Revert}

abbrev pub verb_word : Verb → Text
verb_word Rebase = codes "rebase"
verb_word CherryPick = codes "cherry-pick"
verb_word Revert = codes "revert"

abbrev pub empty_word : Empty → Text
empty_word Drop = codes "drop"
empty_word Keep = codes "keep"
empty_word Stop = codes "stop"

abbrev pub yes_or_no : Bool → Text
yes_or_no b = if b then codes "yes" else codes "no"

abbrev pub stop_word : StopWord → Text
stop_word stop.Conflict = codes "conflict"
stop_word stop.Edit = codes "edit"
stop_word stop.Break = codes "break"
stop_word stop.ExecFailed = codes "exec-failed"
stop_word stop.ExecDirty = codes "exec-dirty"
stop_word stop.Empty = codes "empty"
stop_word stop.HookRefused = codes "hook-refused"
stop_word stop.EditorFailed = codes "editor-failed"
stop_word stop.EmptyMessage = codes "empty-message"
stop_word stop.DriverBroken = codes "driver-broken"
stop_word stop.Blocked = codes "blocked"
stop_word stop.TodoBad = codes "todo-bad"
stop_word stop.RefMoved = codes "ref-moved"
