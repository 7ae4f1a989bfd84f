-- A list of invocations is one reading.
use Rattle.std.proofs.Common.{List, [], ◌∷◌, ◌++◌}
use Rattle.seq_base.specs.World.{World}
use Rattle.reading.specs.Opening.{Checks}
use Rattle.reading.specs.Laws.{AnswersAsRead}
use Rattle.reading.specs.Lists.{AllAsFound, AllAsRead, AllQuiet, ByVerdict, IfStopped, Invocation}
use Rattle.reading.specs.Readings.{Denied, Done, Ending, Heard, Starved, Stopped, Unstarted, Verdict, judged, meaning}
use Rattle.reading.specs.Standing.{Stands, StandsAfter, StandsOrDone}
use Rattle.reading.specs.Starting.{Start}
use Rattle.reading.specs.Tapes.{Event, this_call}
use Rattle.reading.proofs.Leaving.{stands_on, stands_through}
use Rattle.reading.proofs.Meant.{meant}

module _ (checks : Checks) (start : Start) where
  -- a claim of a store at which a reading has stopped
  if_stopped : (ending : Ending) (w : World) (claim : Type 0)
      → StandsOrDone ending w → (Stands ending w → claim) → IfStopped ending claim
  if_stopped (Stopped why failed k v) w claim stands then = then stands
  if_stopped (Done v) w claim stands then = tt
  if_stopped (Unstarted begun) w claim stands then = tt
  if_stopped Starved w claim stands then = tt

  by_verdict : (verdict : Verdict) (before after : Ending) (w : World) (same further : Type 0)
      → StandsAfter verdict before after w → (Stands before w → same) → (Stands after w → further)
      → ByVerdict verdict after same further
  by_verdict (Denied denial) before after w same further stands one other = one stands
  by_verdict Heard before after w same further stands one other = if_stopped after w further stands other

  pub are_meant : (tape : List Event) (w : World) (is : List Invocation)
      → Stands (meaning checks start tape).ending w → AllQuiet w is → AllAsFound checks is → AllAsRead checks start tape is
  are_meant tape w [] stands quiet found = tt
  are_meant tape w (i ∷ is) stands quiet found =
      let before = (meaning checks start tape).ending in
      let further = tape ++ this_call i.turn i.seen in
      let reading = meaning checks start further in
      let verdict = judged checks i.again i.turn before in
      let here = stands_through before w i.turn.world quiet.0 stands in
      let answers : AnswersAsRead checks i.again i.turn i.seen i.outcome i.left start tape
      = meant checks i.again i.turn i.goes i.seen i.outcome i.left found.0 start tape here in
      let after = stands_on i.seen before verdict reading i.outcome i.turn.world i.left here answers in (
        answers,
        by_verdict verdict before reading.ending i.left (AllAsRead checks start tape is) (AllAsRead checks start further is) after
            (λ stays. are_meant tape i.left is stays quiet.1 found.1) (λ goes. are_meant further i.left is goes quiet.1 found.1),
      )
