-- The causes of a line, by those of its steps.
use Rattle.std.proofs.Common.{Ok, Err}
use Rattle.std.specs.Prelude.{Bool, Result}
use Rattle.child_steps.specs.Causes.{HasStepCause}
use Rattle.line_steps.specs.declared.stop.Stop.{Stop}
use Rattle.seq_outside.specs.Child.{Spawns}
use Rattle.seq_outside.specs.Seen.{Seen}
use Rattle.seq_outside.specs.declared.halt.Halt.{Halt}
use Rattle.seq_outside.specs.declared.halt.Halt.TheVariants.{Stops, Fault, Memory}
use Rattle.seq_step.specs.Causes.{HasLineCause}

-- a step that runs no driver
pub as_line : {X : Type 0} (told : Type 0) (failed : Stop → Bool) (result : Result X (Halt Stop)) (a b : Seen) (k l : Spawns)
    → HasStepCause told failed result a b k l → HasLineCause failed result a b k l
as_line {X} told failed (Ok x) a b k l cause = cause
as_line {X} told failed (Err (Stops why)) a b k l cause = cause
as_line {X} told failed (Err Fault) a b k l cause = (cause.0, cause.1, (cause.2.0, λ none. absurd none))
as_line {X} told failed (Err Memory) a b k l cause = cause
