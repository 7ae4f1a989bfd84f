-- What a list leaves of its place where it stops, so that files can tell it.
use Rattle.std.specs.Prelude.{Result, Ok, Err}
use Rattle.line_steps.specs.declared.pause.Pause.{Pause}
use Rattle.line_steps.specs.declared.place.Place.{Place}
use Rattle.seq_outside.specs.declared.halt.Halt.{Halt}
use Rattle.seq_outside.specs.declared.halt.Halt.TheVariants.{Stops, Fault, Memory}
use Rattle.seq_step.specs.Keeping.{CanBeKept, HasSameLists}

abbrev pub PausesKept : {X : Type 0} → Result X (Halt Pause) → Type 0
PausesKept (Ok x) = Unit {0}
PausesKept (Err (Stops pause)) = CanBeKept pause.stop
PausesKept (Err Fault) = Unit {0}
PausesKept (Err Memory) = Unit {0}

-- as a step of a line keeps its lists
abbrev pub KeepsPaused : {X : Type 0} → Place → Result X (Halt Pause) → Place → Type 0
KeepsPaused old result new = HasSameLists old new × PausesKept result
