-- Children of a line, and hooks whose exit is not looked at (githooks(5)).
use Rattle.std.specs.Prelude.{Bool, true, is_some, if◌then◌else◌, List, Result, Ok}
use Rattle.std.specs.FinMap as map
use Rattle.child_jobs.specs.Jobs.{hook_of}
pub use Rattle.child_steps.specs.Children.{hook_path}
use Rattle.child_steps.specs.Children.{end_of}
use Rattle.child_steps.specs.declared.child.ChildEnd.{ChildEnd}
use Rattle.seq_base.specs.Words.{Name, Text}
use Rattle.seq_base.specs.World.{World}
use Rattle.seq_outside.specs.Doing.{◌>>=◌, child_ends, gives, looks, places}
use Rattle.seq_outside.specs.declared.child.Job.{Job}
use Rattle.line_steps.specs.Places.{Doing, Stop, with_unseen}

-- a child is run, whatever it ends with
unfoldable pub job_does : Job → Doing ChildEnd
job_does job = do
  child ← child_ends job
  gives (end_of child)

-- a hook is run, whatever its exit
unfoldable pub hook_ends : Job → Doing (Unit {0})
hook_ends job = do
  _ ← job_does job
  places (with_unseen true)

unfoldable pub has_hook : Name → World → Result Bool Stop
has_hook name w = Ok (is_some (map.get w (hook_path name)))

-- a hook is run where it is there
unfoldable pub hook_does : Name → List Text → Text → Doing (Unit {0})
hook_does name arguments input = do
  there ← looks (has_hook name)
  if there then hook_ends (hook_of name arguments input) else gives tt
