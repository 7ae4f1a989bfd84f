-- How a step that may stop goes with what it is to do.
use Rattle.std.specs.Prelude.{◌≡◌, Bool, true, false, Option, Some, None, Result, Ok, Err}
use Rattle.seq_outside.specs.Seen.{Cause}
use Rattle.seq_outside.specs.Seen.Cause.{ByFault, ByNone}
use Rattle.seq_outside.specs.declared.halt.Halt.{Halt}
use Rattle.seq_outside.specs.declared.halt.Halt.TheVariants.{Stops, Fault, Memory}
use Rattle.seq_outside.specs.declared.store.StoreError.{StoreError}
use Rattle.seq_outside.specs.declared.store.StoreError.TheVariants as store

-- of a call that is no put
abbrev pub halt_of : {E : Type 0} → StoreError → Halt E
halt_of store.Failed = Fault
halt_of store.Blocked = Fault
halt_of store.Memory = Memory

abbrev pub halt_cause : {E : Type 0} → Halt E → Cause
halt_cause (Stops why) = ByNone
halt_cause Fault = ByFault
halt_cause Memory = ByNone

-- ---- steps that read

-- It stops for the reason that is told.
abbrev pub Denies : {E Y : Type 0} → Halt E → Result Y E → Type 0
Denies (Stops why) means = means ≡ Err why
Denies Fault means = Unit {0}
Denies Memory means = Unit {0}

-- What a step answered, seen by `view`, is what is meant, unless the store failed or memory ran out.
abbrev pub Gives : {E X Y : Type 0} → (X → Y) → Result X (Halt E) → Result Y E → Type 0
Gives view (Ok x) means = means ≡ Ok (view x)
Gives view (Err halt) means = Denies halt means

-- the next step, where none has stopped
infixl 10 ◌>>=◌
abbrev pub ◌>>=◌ : {E A B : Type 0} → Result A E → (A → Result B E) → Result B E
(Ok x) >>= next = next x
(Err why) >>= next = Err why

-- what is there, or the reason
abbrev pub or_stop : {E A : Type 0} → Option A → E → Result A E
or_stop (Some x) why = Ok x
or_stop None why = Err why

abbrev pub stop_if : {E : Type 0} → Bool → E → Result (Unit {0}) E
stop_if true why = Err why
stop_if false why = Ok tt

-- the reason that goes with what was found, if something was
abbrev pub stop_found : {E A : Type 0} → Option A → (A → E) → Result (Unit {0}) E
stop_found (Some x) why = Err (why x)
stop_found None why = Ok tt

-- the same, for a reason that is told otherwise
abbrev pub for_reason : {E F A : Type 0} → (E → F) → Result A E → Result A F
for_reason told (Ok x) = Ok x
for_reason told (Err why) = Err (told why)
