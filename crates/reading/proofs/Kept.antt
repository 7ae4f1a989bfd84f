-- Where a reading has stopped, its world has the files of its control.
use Rattle.std.proofs.Common.{◌≡◌, ℤ, Bool, List, [], ◌∷◌, Result, Ok, Err, refl, subst}
use Rattle.seq_base.specs.World.{World}
use Rattle.seq_model.specs.declared.denial.Denial.{Denial}
use Rattle.seq_model.specs.declared.stop.StopKind.{StopKind}
use Rattle.seq_outside.specs.Doing.{End, Goes, Spot, Starves, Stops}
use Rattle.seq_outside.specs.Tape.{Coming, Ended}
use Rattle.state_text.specs.declared.control.Control.{Control}
use Rattle.state_text.specs.declared.control.Left.TheVariants.{Lines}
use Rattle.state_text.specs.declared.control.Left.{Left}
use Rattle.reading.specs.Going.{begins, goes_on}
use Rattle.line_steps.specs.declared.setting.Setting.{Setting}
use Rattle.reading.specs.Opening.{Checks}
use Rattle.line_steps.specs.declared.place.Place.{Place}
use Rattle.reading.specs.Readings.{Done, Ending, Reading, Starved, Stopped, Unstarted, ending_of, follow, meaning}
use Rattle.reading.specs.Readings.{if_all_used, if_no_moment, if_used}
use Rattle.reading.specs.Readings.{begun_with, first_turn, gone_on, next_turn, resumed, resumes_in, spot_of, started, turned}
use Rattle.reading.specs.Resuming.{Going, taken_up}
use Rattle.reading.specs.Settings.{setting_at}
use Rattle.reading.specs.Stages.{Pause}
use Rattle.reading.specs.Starting.{Start}
use Rattle.reading.specs.State.{with_state}
use Rattle.reading.specs.Tapes.{Action, Again, Call, Event, Turn, calls}
use Rattle.reading.specs.Tapes as action

module _ (checks : Checks) where
  -- the ending's world, where it is a stop, has the files of its control
  abbrev pub IsKept : Ending → Type 0
  IsKept (Unstarted start) = Unit {0}
  IsKept (Done w) = Unit {0}
  IsKept (Stopped why failed k v) = (x : World) × (v ≡ with_state k x)
  IsKept Starved = Unit {0}

  used : (children : List Ended) (drivers : List (List Ended)) (ending : Ending) → IsKept ending → IsKept (if_used children drivers ending)
  used [] [] ending kept = kept
  used (e ∷ children) drivers ending kept = tt
  used [] (es ∷ drivers) ending kept = tt

  no_moment : (moments : List ℤ) (ending : Ending) → IsKept ending → IsKept (if_no_moment moments ending)
  no_moment [] ending kept = kept
  no_moment (secs ∷ moments) ending kept = tt

  all_used : (coming : Coming) (ending : Ending) → IsKept ending → IsKept (if_all_used coming ending)
  all_used coming ending kept =
      no_moment coming.moments (if_used coming.children coming.drivers ending) (used coming.children coming.drivers ending kept)

  ended : (k : Control) (left : Left) (end : End Pause (Unit {0})) (spot : Spot Place) → IsKept (ending_of k left end spot)
  ended k left (Goes x) spot = tt
  ended k left (Stops pause) spot = (spot.world, refl)
  ended k left Starves spot = tt

  gone : (again : Again) (k : Control) (w : World) (coming : Coming) (going : Result Going Denial)
      → IsKept (gone_on again k w coming going).ending
  gone again k w coming (Ok going) =
      let k = taken_up again going k in
      let step = goes_on again going k (spot_of k w) coming in
      all_used step.coming (ending_of k (Lines going.left) step.end step.spot) (ended k (Lines going.left) step.end step.spot)
  gone again k w coming (Err denial) = tt

  begun : (start : Start) (coming : Coming) (setting : Result Setting Denial) → IsKept (begun_with start coming setting).ending
  begun start coming (Ok setting) =
      let k = start.plan.control in
      let step = begins setting start (spot_of k start.world) coming in
      all_used step.coming (ending_of k k.left step.end step.spot) (ended k k.left step.end step.spot)
  begun start coming (Err denial) = tt

  first : (action : Action) (turn : Turn) (start : Start) (coming : Coming) → IsKept (first_turn checks action turn start coming).ending
  unfolding started
  first action.Start turn start coming = begun start coming (setting_at checks turn.env turn.secs turn.world)
  first (action.Goes again) turn start coming = tt

  next : (action : Action) (turn : Turn) (k : Control) (coming : Coming) → IsKept (next_turn checks action turn k coming).ending
  unfolding resumed
  next action.Start turn k coming = tt
  next (action.Goes again) turn k coming = gone again k turn.world coming (resumes_in checks again turn k)

  one_turn : (ending : Ending) (turn : Turn) (coming : Coming) → IsKept (turned checks ending turn coming).ending
  one_turn (Unstarted start) turn coming = first turn.action turn start coming
  one_turn (Done w) turn coming = tt
  one_turn (Stopped why failed k w) turn coming = next turn.action turn k coming
  one_turn Starved turn coming = tt

  all_turns : (reading : Reading) (calls : List Call) → IsKept reading.ending → IsKept (follow checks reading calls).ending
  all_turns reading [] kept = kept
  all_turns reading (call ∷ calls) kept =
      all_turns (turned checks reading.ending call.turn call.coming) calls (one_turn reading.ending call.turn call.coming)

  pub kept : (start : Start) (tape : List Event) (why : StopKind) (failed : Bool) (k : Control) (v : World)
      → (meaning checks start tape).ending ≡ Stopped why failed k v → (x : World) × (v ≡ with_state k x)
  unfolding meaning
  kept start tape why failed k v is = subst IsKept is (all_turns (record { ending = Unstarted start; asked = [] }) (calls tape) tt)
