-- A pending commit that can be made.
use Rattle.std.specs.Prelude.{◌≡◌, false, Result, Ok, Err}
use Rattle.line_steps.specs.declared.stop.Stop.{Stop}
use Rattle.seq_outside.specs.declared.halt.Halt.{Halt}
use Rattle.seq_outside.specs.declared.halt.Halt.TheVariants.{Stops, Fault, Memory}
use Rattle.seq_step.specs.Keeping.{CanBeKept}
use Rattle.state_text.specs.Controls.{IfThere, IsPending}
use Rattle.state_text.specs.declared.control.Control.{Control}

-- its author and its encoding can stand in a commit
abbrev pub HasPending : Control → Type 0
HasPending k = IfThere IsPending k.pending

-- of a step that runs no child: where it stops, the commit stays pending
abbrev pub StaysPending : {X : Type 0} → Result X (Halt Stop) → Type 0
StaysPending (Ok x) = Unit {0}
StaysPending (Err (Stops stop)) = (stop.failed ≡ false) × CanBeKept stop
StaysPending (Err Fault) = Unit {0}
StaysPending (Err Memory) = Unit {0}
