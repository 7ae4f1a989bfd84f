-- Where a store stands behind a turn, and behind what is changed between invocations.
use Rattle.std.proofs.Common.{List, subst, sym}
use Rattle.seq_base.specs.World.{World}
use Rattle.seq_model.specs.declared.outcome.Outcome.{Outcome}
use Rattle.seq_outside.specs.Tape.{Event}
use Rattle.reading.specs.Readings.{Denied, Done, Ending, Heard, Reading, Starved, Stopped, Unstarted, Verdict}
use Rattle.reading.specs.Standing.{Agrees, IsQuiet, Stands, StandsAfter, StandsOrDone, Turned, with_left}
use Rattle.reading.proofs.Telling.{files_tell}

agreed : (ending : Ending) (o : Outcome) (w : World) → Agrees ending o w → StandsOrDone ending w
agreed (Done v) o w agrees = agrees.1
agreed (Stopped why failed k v) o w agrees = agrees.2
agreed (Unstarted start) o w agrees = absurd agrees
agreed Starved o w agrees = absurd agrees

-- of any verdict and any readings before and after
pub stands_on : (seen : List Event) (before : Ending) (verdict : Verdict) (reading : Reading) (o : Outcome) (old new : World)
    → Stands before old → Turned seen verdict reading o old new → StandsAfter verdict before reading.ending new
stands_on seen before (Denied denial) reading o old new stands turned = subst (λ (w : World). Stands before w) (sym turned.1) stands
stands_on seen before Heard reading o old new stands turned = agreed reading.ending o new turned.agrees

pub stands_through : (ending : Ending) (old new : World)
    → IsQuiet old new → Stands ending old → Stands ending new
stands_through (Stopped why failed k v) old new quiet stands =
    let here = files_tell old new (with_left stands.0 k) quiet stands.1 in
    (here.0, here.1)
stands_through (Done v) old new quiet stands = absurd stands
stands_through (Unstarted start) old new quiet stands = absurd stands
stands_through Starved old new quiet stands = absurd stands
