-- Why no commit was made, and which counts rose then.
use Rattle.std.specs.Prelude.{◌≡◌, Bool, false, Result, Ok, Err}
use Rattle.seq_outside.specs.declared.halt.Halt.{Halt}
use Rattle.seq_outside.specs.declared.halt.Halt.TheVariants.{Stops, Fault, Memory}
use Rattle.commit_maker.specs.declared.stop.MakeStop.{MakeStop}
use Rattle.commit_maker.specs.declared.stop.MakeStop.TheVariants.{HookRefused, EditorFailed, EmptyMessage, Lacks}

-- a child that could not be run made it stop
abbrev pub stop_failed : MakeStop → Bool
stop_failed (HookRefused name exit failed) = failed
stop_failed (EditorFailed exit failed) = failed
stop_failed EmptyMessage = false
stop_failed (Lacks lack) = false

-- a step that runs no child
abbrev pub RunsNone : {X : Type 0} → Result X (Halt MakeStop) → Type 0
RunsNone (Ok x) = Unit {0}
RunsNone (Err (Stops why)) = stop_failed why ≡ false
RunsNone (Err Fault) = Unit {0}
RunsNone (Err Memory) = Unit {0}
