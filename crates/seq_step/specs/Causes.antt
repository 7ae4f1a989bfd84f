-- Which stops a child that could not be run has made.
use Rattle.std.specs.Prelude.{◌≡◌, Bool, false, None, Result, Ok, Err}
use Rattle.child_steps.specs.Causes.{HasStepCause}
use Rattle.seq_outside.specs.Child.{Spawns}
use Rattle.seq_outside.specs.Seen.{Seen}
use Rattle.seq_outside.specs.declared.halt.Halt.{Halt}
use Rattle.seq_outside.specs.declared.halt.Halt.TheVariants.{Stops, Fault, Memory}
use Rattle.line_steps.specs.declared.stop.Stop.{Stop}

-- a child that could not be run made it stop
abbrev pub stop_failed : Stop → Bool
stop_failed stop = stop.failed

-- of a step that runs no child: what it stops with is its own, and no commit is pending
abbrev pub RunsNone : {X : Type 0} → Result X (Halt Stop) → Type 0
RunsNone (Ok x) = Unit {0}
RunsNone (Err (Stops stop)) = (stop.failed ≡ false) × (stop.pending ≡ None)
RunsNone (Err Fault) = Unit {0}
RunsNone (Err Memory) = Unit {0}

-- The causes of a step that may also run merge drivers: a put of a driver's file that was blocked counts as a fault of the store.
abbrev pub HasLineCause : {E X : Type 0} → (E → Bool) → Result X (Halt E) → Seen → Seen → Spawns → Spawns → Type 0
HasLineCause failed result old new spawns spawns' = HasStepCause ⊥ failed result old new spawns spawns'

-- it stops, for a driver that could not be run where that is said
abbrev pub Breaks : {X : Type 0} → Bool → Result X (Halt Stop) → Type 0
Breaks failed (Ok x) = ⊥
Breaks failed (Err (Stops stop)) = stop.failed ≡ failed
Breaks failed (Err Fault) = ⊥
Breaks failed (Err Memory) = Unit {0}

-- and it does nothing but that
abbrev pub IsBroken : {X : Type 0} → Bool → Result X (Halt Stop) → Seen → Seen → Spawns → Spawns → Type 0
IsBroken failed result old new spawns spawns' = (new ≡ old) × (spawns' ≡ spawns) × Breaks failed result
