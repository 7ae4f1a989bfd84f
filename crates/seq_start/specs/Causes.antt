-- Which starts that do not begin a child that could not be run has made.
use Rattle.std.specs.Prelude.{◌≡◌, Bool, false, Result, Ok, Err}
use Rattle.reading.specs.declared.not_begun.NotBegun.{NotBegun}
use Rattle.seq_outside.specs.Child.{Spawns}
use Rattle.seq_outside.specs.Seen.{Seen}
use Rattle.seq_outside.specs.declared.halt.Halt.{Halt}
use Rattle.seq_outside.specs.declared.halt.Halt.TheVariants.{Stops, Fault, Memory}
use Rattle.seq_step.specs.Causes.{HasLineCause}

abbrev pub begin_failed : NotBegun → Bool
begin_failed ends = ends.failed

-- of the checks of a start
abbrev pub HasBeginCause : {X : Type 0} → Result X (Halt NotBegun) → Seen → Seen → Spawns → Spawns → Type 0
HasBeginCause result old new spawns spawns' = HasLineCause begin_failed result old new spawns spawns'

-- of a step that runs no child
abbrev pub RunsNone : {X : Type 0} → Result X (Halt NotBegun) → Type 0
RunsNone (Ok x) = Unit {0}
RunsNone (Err (Stops ends)) = ends.failed ≡ false
RunsNone (Err Fault) = Unit {0}
RunsNone (Err Memory) = Unit {0}
