-- What a line of a todo does (git-rebase(1), "INTERACTIVE MODE").
use Rattle.seq_base.specs.Words.{Text}
use Rattle.seq_model.specs.declared.stop.StopKind.TheVariants as kind
use Rattle.seq_outside.specs.Doing.{gives, stops}
use Rattle.state_text.specs.declared.options.Options.{Options}
use Rattle.todo_text.specs.declared.line.Line.{Line}
use Rattle.todo_text.specs.declared.line.Line.TheVariants.{Pick, Exec, Break, Noop, Label, Reset, Merge, UpdateRef}
use Rattle.todo_text.specs.declared.line.PickKind.{PickKind}
use Rattle.todo_text.specs.declared.line.PickKind.TheVariants as pick
use Rattle.todo_text.specs.declared.todo_kind.TodoKind.TheVariants.{NotBuilt}
use Rattle.line_steps.specs.Layers.{Makers, Setting}
use Rattle.line_steps.specs.Lines.{break_does, exec_does}
use Rattle.line_steps.specs.Picks.{pick_does}
use Rattle.line_steps.specs.Places.{Doing, stop_of}

-- A line of a kind that is not built: no todo with one is read, and whoever does such a line stops.
abbrev pub not_built : Doing (Unit {0})
not_built = stops (stop_of (kind.TodoBad 0 NotBuilt))

abbrev pub commit_line_does : Makers → Setting → Options → PickKind → Text → Doing (Unit {0})
commit_line_does makers setting options pick.Pick rev = pick_does makers setting options rev
commit_line_does makers setting options pick.Drop rev = gives tt
commit_line_does makers setting options pick.Reword rev = not_built
commit_line_does makers setting options pick.Edit rev = not_built
commit_line_does makers setting options pick.Squash rev = not_built
commit_line_does makers setting options pick.Fixup rev = not_built
commit_line_does makers setting options pick.FixupKeep rev = not_built
commit_line_does makers setting options pick.FixupEdit rev = not_built
commit_line_does makers setting options pick.Revert rev = not_built

-- what a line does
unfoldable pub line_does : Makers → Setting → Options → Line → Doing (Unit {0})
line_does makers setting options (Pick which rev note) = commit_line_does makers setting options which rev
line_does makers setting options (Exec command) = exec_does options.reschedule command
line_does makers setting options Break = break_does
line_does makers setting options Noop = gives tt
line_does makers setting options (Label name) = not_built
line_does makers setting options (Reset name note) = not_built
line_does makers setting options (Merge how head note) = not_built
line_does makers setting options (UpdateRef name) = not_built
