-- The lines `exec` and `break` (git-rebase(1), "INTERACTIVE MODE").
use Rattle.std.specs.Prelude.{Bool, not, ◌||◌}
use Rattle.child_jobs.specs.Jobs.{exec_of}
use Rattle.child_steps.specs.declared.child.ChildEnd.{ChildEnd}
pub use Rattle.child_steps.specs.Children.{is_good}
use Rattle.seq_base.specs.Words.{Id, Text}
use Rattle.seq_model.specs.declared.stop.StopKind.TheVariants as kind
use Rattle.seq_outside.specs.Doing.{◌>>=◌, stops, stops_if}
use Rattle.line_steps.specs.Heads.{Unclean, IsChanged, IsUnread, clean_at, head_found}
use Rattle.line_steps.specs.Hooks.{job_does}
use Rattle.line_steps.specs.Places.{Doing, Stop, blocked, heads, reads, stop_of}

-- ---- exec

-- the line is put back where that is asked for, and where the command could not be run
abbrev pub exec_failed : Bool → ChildEnd → Stop
exec_failed again child = record (stop_of (kind.ExecFailed child.exit)) { put_back = child.failed || again; failed = child.failed }

-- what the command left is looked at
abbrev pub exec_left : Unclean → Stop
exec_left (IsUnread why) = blocked why
exec_left (IsChanged path) = stop_of (kind.ExecDirty path)

-- index and files are those of HEAD's commit, and HEAD is taken as it is
unfoldable pub exec_takes : Id → Doing (Unit {0})
exec_takes head = do
  _ ← reads exec_left (λ w. clean_at w head)
  heads head

unfoldable pub exec_looks : Doing (Unit {0})
exec_looks = do
  head ← reads blocked head_found
  exec_takes head

-- The command is run. It stops the list where its exit is not 0, and where it leaves index, tracked files and HEAD's commit unlike each other.
-- HEAD is taken as it then is.
unfoldable pub exec_does : Bool → Text → Doing (Unit {0})
exec_does again command = do
  child ← job_does (exec_of command)
  _ ← stops_if (not (is_good child.exit)) (exec_failed again child)
  exec_looks

-- ---- break

unfoldable pub break_does : Doing (Unit {0})
break_does = stops (stop_of kind.Break)
