-- Children as steps: one that has to end with 0, and hooks, which are run where they are there (githooks(5)).
use Rattle.std.specs.Prelude.{Bool, true, false, not, ◌==◌, is_some, if◌then◌else◌, List, [], ◌++◌, codes, Result, Ok}
use Rattle.std.specs.FinMap as map
use Rattle.child_jobs.specs.Jobs.{hook_of}
use Rattle.seq_base.specs.Words.{Name, Path, Text}
use Rattle.seq_base.specs.World.{World}
use Rattle.seq_outside.specs.Doing.{◌>>=◌, Does, Spot, child_ends, gives, looks, places, stops_if}
use Rattle.seq_outside.specs.Seen.{Seen}
use Rattle.seq_outside.specs.Tape.{Ended}
use Rattle.seq_outside.specs.declared.child.Exit.{Exit}
use Rattle.seq_outside.specs.declared.child.Exit.TheVariants.{Code, Killed}
use Rattle.seq_outside.specs.declared.child.Job.{Job}
use Rattle.child_steps.specs.declared.child.ChildEnd.{ChildEnd}

-- where a step stands over a store, with a place beside it
abbrev pub spot_of : {P : Type 0} → Seen → P → Spot P
spot_of seen place = record { world = seen.content; place = place }

-- it ended with status 0
abbrev pub is_good : Exit → Bool
is_good (Code n) = n == 0
is_good Killed = false

-- how a child ended, without what it left
abbrev pub end_of : Ended → ChildEnd
end_of child = record { exit = child.exit; failed = child.failed }

-- At its place such a step tells whether a child has ended. It stops with the end of one that had to end with 0.
abbrev pub Asking : Type 0 → Type 0
Asking X = Does Bool ChildEnd X

-- a child is run, whatever it ends with
unfoldable pub child_does : Job → Asking ChildEnd
child_does job = do
  child ← child_ends job
  _ ← places (λ ran. true)
  gives (end_of child)

-- a child that has to end with 0
unfoldable pub asked : Job → Asking (Unit {0})
asked job = do
  child ← child_does job
  stops_if (not (is_good child.exit)) child

-- ---- hooks

abbrev pub hook_path : Name → Path
hook_path name = codes ".git/hooks/" ++ name

unfoldable pub has_hook : Name → World → Result Bool ChildEnd
has_hook name w = Ok (is_some (map.get w (hook_path name)))

-- a hook that has to end with 0, where it is there
unfoldable pub hook_asked : Name → List Text → Asking (Unit {0})
hook_asked name arguments = do
  there ← looks (has_hook name)
  if there then asked (hook_of name arguments []) else gives tt
