-- Which counts rose with which answer of a step that may run children.
use Rattle.std.specs.Prelude.{◌≡◌, Bool, true, Result, Ok, Err}
use Rattle.seq_outside.specs.Causes.{Rose}
use Rattle.seq_outside.specs.Child.{Serves, Spawns}
use Rattle.seq_outside.specs.Seen.{HasFault, Lasts, Seen}
use Rattle.seq_outside.specs.declared.halt.Halt.{Halt}
use Rattle.seq_outside.specs.declared.halt.Halt.TheVariants.{Stops, Fault, Memory}
use Rattle.child_steps.specs.declared.child.ChildEnd.{ChildEnd}

-- it could not be run
abbrev pub has_failed : ChildEnd → Bool
has_failed child = child.failed

-- A fault of the store comes only where a count of the store rose; a stop that says so, for a child that could not be run, only where the
-- spawner's did. No count falls.
abbrev pub HasStepCause : {E X : Type 0} → Type 0 → (E → Bool) → Result X (Halt E) → Seen → Seen → Spawns → Spawns → Type 0
HasStepCause told failed (Ok x) old new spawns spawns' = Lasts old new × Serves spawns spawns'
HasStepCause told failed (Err (Stops why)) old new spawns spawns' =
    Lasts old new × Serves spawns spawns' × (failed why ≡ true → Rose spawns.faults spawns'.faults)
HasStepCause told failed (Err Fault) old new spawns spawns' = Lasts old new × Serves spawns spawns' × HasFault told old new
HasStepCause told failed (Err Memory) old new spawns spawns' = Lasts old new × Serves spawns spawns'

-- a step that has no reason to stop
abbrev pub NeverStops : {E X : Type 0} → Result X (Halt E) → Type 0
NeverStops (Ok x) = Unit {0}
NeverStops (Err (Stops why)) = ⊥
NeverStops (Err Fault) = Unit {0}
NeverStops (Err Memory) = Unit {0}
