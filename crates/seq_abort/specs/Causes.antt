-- Why an abort ends where it does not.
use Rattle.std.specs.Prelude.{◌≤◌, Result, Ok, Err}
use Rattle.seq_model.specs.declared.reason.Reason.{Reason}
use Rattle.seq_outside.specs.Seen.{HasCause, HasFault, Seen, Stays}
use Rattle.seq_outside.specs.Seen.Cause.{ByNone}
use Rattle.seq_outside.specs.declared.halt.Halt.{Halt}
use Rattle.seq_outside.specs.declared.halt.Halt.TheVariants.{Stops, Fault, Memory}

-- A fault of the store comes only where a count of the store rose, and that of faults did where it tells what it holds: a put of packed
-- refs that is blocked counts as a fault, and there none is. No other end moves the count of faults, and no count falls.
abbrev pub HasAbortCause : {X : Type 0} → Type 0 → Result X (Halt Reason) → Seen → Seen → Type 0
HasAbortCause told (Ok x) old new = HasCause told ByNone old new
HasAbortCause told (Err (Stops why)) old new = HasCause told ByNone old new
HasAbortCause told (Err Fault) old new = (old.faults ≤ new.faults) × HasFault told old new × Stays told old new
HasAbortCause told (Err Memory) old new = HasCause told ByNone old new
