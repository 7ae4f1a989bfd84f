-- What a line leaves of its list, so that files can tell it.
use Rattle.std.specs.Prelude.{◌≡◌, Some, Result, Ok, Err}
use Rattle.line_steps.specs.declared.place.Place.{Place}
use Rattle.line_steps.specs.declared.stop.Stop.{Stop}
use Rattle.seq_outside.specs.declared.halt.Halt.{Halt}
use Rattle.seq_outside.specs.declared.halt.Halt.TheVariants.{Stops, Fault, Memory}
use Rattle.state_text.specs.Controls.{IsPending}
use Rattle.state_text.specs.declared.control.Pending.{Pending}

-- labels, refs that are to be updated, and the squash chain
abbrev pub HasSameLists : Place → Place → Type 0
HasSameLists old new = (new.labels ≡ old.labels) × (new.updates ≡ old.updates) × (new.chain ≡ old.chain)

-- a commit that is pending is one that files can tell
abbrev pub CanBeKept : Stop → Type 0
CanBeKept stop = (pending : Pending) → stop.pending ≡ Some pending → IsPending pending

abbrev pub StopsKept : {X : Type 0} → Result X (Halt Stop) → Type 0
StopsKept (Ok x) = Unit {0}
StopsKept (Err (Stops stop)) = CanBeKept stop
StopsKept (Err Fault) = Unit {0}
StopsKept (Err Memory) = Unit {0}

abbrev pub Keeps : {X : Type 0} → Place → Result X (Halt Stop) → Place → Type 0
Keeps old result new = HasSameLists old new × StopsKept result
