-- A turn, by the reading over all turns so far.
use Rattle.std.proofs.Common.{◌≡◌, List, Result, sym, subst}
use Rattle.seq_base.specs.World.{World}
use Rattle.seq_model.specs.declared.outcome.Outcome.{Outcome}
use Rattle.seq_outside.specs.Tape.{coming}
use Rattle.seq_outside.specs.Tape.{Event as Seen}
use Rattle.state_text.specs.declared.control.Control.{Control}
use Rattle.state_text.specs.declared.control.Left.{Left}
use Rattle.seq_model.specs.declared.denial.Denial.{Denial}
use Rattle.reading.specs.Laws.{AnswersAsRead}
use Rattle.state_found.specs.Found.{IsPaused}
use Rattle.reading.specs.Opening.{Checks}
use Rattle.reading.specs.Readings.{Done, Ending, Reading, Starved, Stopped, Unstarted, judged, meaning, next_turn, resumed, resumes_in, turned, verdict_of}
use Rattle.reading.specs.Resuming.{Going}
use Rattle.reading.specs.Standing.{Stands, Turned, with_left}
use Rattle.reading.specs.Starting.{Start}
use Rattle.reading.specs.Tapes.{Action, Again, Event, Goes, Turn}
use Rattle.reading.proofs.Lefts.{resumed-same, resumes-same}
use Rattle.reading.proofs.Turns.{meaning-more}

module _ (checks : Checks) (again : Again) (turn : Turn) (is : turn.action ≡ Goes again) (seen : List Seen) (o : Outcome) (new : World) where
  -- what a turn answers, of this verdict and this reading
  abbrev pub So : Result Going Denial → Reading → Type 0
  So going reading = Turned seen (verdict_of going) reading o turn.world new

  -- what it does with whatever control it finds
  abbrev pub Found : Type 0
  Found = (k : Control) → IsPaused turn.world k
      → So (resumes_in checks again turn k) (resumed checks again turn k (coming seen))

  -- the lines that the control kept do not matter
  at_stop : Found → (left : Left) (k : Control) → IsPaused turn.world (with_left left k)
      → So (resumes_in checks again turn k) (resumed checks again turn k (coming seen))
  at_stop found left k stands =
      let there = resumed checks again turn (with_left left k) (coming seen) in
      let here = found (with_left left k) stands in
      let heard = subst (λ (going : Result Going Denial). So going there) (resumes-same left k checks again turn) here in
      subst (λ (reading : Reading). So (resumes_in checks again turn k) reading) (resumed-same left k checks again turn (coming seen)) heard

  at_ending : Found → (ending : Ending) → Stands ending turn.world
      → Turned seen (judged checks again turn ending) (turned checks ending turn (coming seen)) o turn.world new
  at_ending found (Stopped why failed k v) stands =
      subst (λ (what : Action). So (resumes_in checks again turn k) (next_turn checks what turn k (coming seen))) (sym is)
      (at_stop found stands.0 k stands.1)
  at_ending found (Unstarted start) stands = absurd stands
  at_ending found (Done v) stands = absurd stands
  at_ending found Starved stands = absurd stands

  -- a turn that goes on
  pub meant : Found → (start : Start) (tape : List Event) → Stands (meaning checks start tape).ending turn.world
      → AnswersAsRead checks again turn seen o new start tape
  meant found start tape stands = rw (meaning-more checks start tape turn seen) (at_ending found (meaning checks start tape).ending stands)
