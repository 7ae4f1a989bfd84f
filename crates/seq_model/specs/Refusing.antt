-- What an invocation is denied for, step by step.
use Rattle.std.specs.Prelude.{Bool, Option, Result}
use Rattle.seq_outside.specs.Halts.{or_stop, stop_found, stop_if}
use Rattle.seq_outside.specs.declared.halt.Halt.{Halt}
use Rattle.seq_outside.specs.declared.halt.Halt.TheVariants.{Stops, Fault, Memory}
use Rattle.seq_outside.specs.declared.lack.Lack.{Lack}
use Rattle.seq_outside.specs.declared.lack.Lack.TheVariants as lacks
use Rattle.seq_model.specs.declared.denial.Denial.{Denial}
use Rattle.seq_model.specs.declared.denial.Denial.TheVariants.{Refused, Limit}
use Rattle.seq_model.specs.declared.refusal.Refusal.{Refusal}
use Rattle.seq_model.specs.declared.refusal.Refusal.TheVariants.{BadObject, NotBuilt, WouldOverwrite}

-- what is there, or the refusal
abbrev pub or_refuse : {A : Type 0} → Option A → Refusal → Result A Denial
or_refuse found refusal = or_stop found (Refused refusal)

-- the refusal, where the test holds
abbrev pub refuse_if : Bool → Refusal → Result (Unit {0}) Denial
refuse_if test refusal = stop_if test (Refused refusal)

-- the refusal of what was found, if something was
abbrev pub refuse_found : {A : Type 0} → Option A → (A → Refusal) → Result (Unit {0}) Denial
refuse_found found refusal = stop_found found (λ x. Refused (refusal x))

-- what objects that are read, and files of the worktree that are written, lack
abbrev pub denied_file : Lack → Denial
denied_file (lacks.Object id) = Refused (BadObject id)
denied_file (lacks.Limit what number) = Limit what number
denied_file (lacks.Way path) = Refused (WouldOverwrite path)
denied_file (lacks.Place id) = Refused (BadObject id)

-- what files of `.git` that are written lack
abbrev pub denied_git : Lack → Denial
denied_git (lacks.Object id) = Refused (BadObject id)
denied_git (lacks.Limit what number) = Limit what number
denied_git (lacks.Way path) = Refused NotBuilt
denied_git (lacks.Place id) = Refused NotBuilt

-- what objects and files of `.git` that are put lack, where another text in an object's file is told by the object's id
abbrev pub denied_put : Lack → Denial
denied_put (lacks.Object id) = Refused (BadObject id)
denied_put (lacks.Limit what number) = Limit what number
denied_put (lacks.Way path) = Refused NotBuilt
denied_put (lacks.Place id) = Refused (BadObject id)

-- why a step gives no value, told otherwise
abbrev pub told_by : {E F : Type 0} → (E → F) → Halt E → Halt F
told_by told (Stops why) = Stops (told why)
told_by told Fault = Fault
told_by told Memory = Memory
