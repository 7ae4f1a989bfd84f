-- One uninterrupted reading of a todo, over all its turns: each goes on from what the last one kept, in the world that it finds.
use Rattle.std.specs.Prelude.{ℕ, ℤ, Bool, true, false, List, [], ◌∷◌, ◌++◌, drop, take, Result, Ok, Err}
use Rattle.seq_base.specs.World.{World}
use Rattle.seq_model.specs.declared.denial.Denial.{Denial}
use Rattle.seq_model.specs.declared.denial.Denial.TheVariants.{Refused}
use Rattle.seq_model.specs.declared.refusal.Refusal.TheVariants.{NothingInProgress}
use Rattle.seq_model.specs.declared.stop.StopKind.{StopKind}
use Rattle.seq_model.specs.declared.stop.StopKind.TheVariants as kind
use Rattle.seq_outside.specs.Doing.{End, Goes, Spot, Starves, Step, Stops}
use Rattle.seq_outside.specs.Tape.{Ask, Coming, Ended}
use Rattle.todo_text.specs.declared.line.Line.{Line}
use Rattle.state_text.specs.declared.control.Control.{Control}
use Rattle.state_text.specs.declared.control.Left.TheVariants.{Lines, Raw}
use Rattle.state_text.specs.declared.control.Left.{Left}
use Rattle.state_text.specs.declared.stop_word.StopWord.{StopWord}
use Rattle.state_text.specs.declared.stop_word.StopWord.TheVariants as stop
use Rattle.reading.specs.Going.{begins, goes_on}
use Rattle.line_steps.specs.declared.setting.Setting.{Setting}
use Rattle.line_steps.specs.Places.{place_of, with_place}
use Rattle.line_steps.specs.declared.place.Place.{Place}
use Rattle.reading.specs.Opening.{Checks}
use Rattle.reading.specs.Resuming.{Going, resumes, taken_up}
use Rattle.reading.specs.Settings.{setting_at}
use Rattle.reading.specs.Stages.{Pause}
use Rattle.reading.specs.Starting.{Start}
use Rattle.reading.specs.State.{with_state}
use Rattle.reading.specs.Tapes.{Action, Again, Call, Event, Turn, calls}
use Rattle.reading.specs.Tapes as action

-- ---- how a reading ends

-- with all lines used; or stopped, with what is kept; before its first turn; or for want of an event, or with one left over
pub data Ending : Type 0 where
  Unstarted : Start → Ending
  Done : World → Ending
  Stopped : StopKind → Bool → Control → World → Ending
  Starved : Ending

-- and what its last turn asked for
pub record Reading : Type 0 where
  pub ending : Ending
  pub asked : List (List Ask)

-- ---- what is kept at a stop

-- a command that could not be run is tried again, as a line that was blocked
abbrev pub exec_word : Bool → StopWord
exec_word true = stop.Blocked
exec_word false = stop.ExecFailed

abbrev pub word_of : Bool → StopKind → StopWord
word_of failed kind.Conflict = stop.Conflict
word_of failed kind.Edit = stop.Edit
word_of failed kind.Break = stop.Break
word_of failed (kind.ExecFailed exit) = exec_word failed
word_of failed (kind.ExecDirty path) = stop.ExecDirty
word_of failed (kind.Empty id) = stop.Empty
word_of failed (kind.HookRefused name exit) = stop.HookRefused
word_of failed (kind.EditorFailed exit) = stop.EditorFailed
word_of failed kind.EmptyMessage = stop.EmptyMessage
word_of failed (kind.DriverBroken path exit) = stop.DriverBroken
word_of failed (kind.Blocked why) = stop.Blocked
word_of failed (kind.TodoBad line bad) = stop.TodoBad
word_of failed (kind.RefMoved name found) = stop.RefMoved

abbrev pub lines_taken : ℕ → Left → List Line
lines_taken n (Lines lines) = take n lines
lines_taken n (Raw text) = []

abbrev pub lines_left : ℕ → Left → Left
lines_left n (Lines lines) = Lines (drop n lines)
lines_left n (Raw text) = Raw text

-- the control with which a turn began, as it is kept where the turn stops
abbrev pub kept_after : Control → Left → Pause → Place → Control
kept_after k left pause place = record (with_place place k) {
  done = k.done ++ lines_taken pause.done left;
  left = lines_left pause.done left;
  stop = word_of pause.stop.failed pause.stop.kind;
  stopped_commit = pause.stop.commit;
  pending = pause.stop.pending;
}

-- ---- a turn that is read

-- each event is used
abbrev pub if_used : List Ended → List (List Ended) → Ending → Ending
if_used [] [] ending = ending
if_used (e ∷ children) drivers ending = Starved
if_used [] (es ∷ drivers) ending = Starved

abbrev pub if_no_moment : List ℤ → Ending → Ending
if_no_moment [] ending = ending
if_no_moment (secs ∷ moments) ending = Starved

abbrev pub if_all_used : Coming → Ending → Ending
if_all_used coming ending = if_no_moment coming.moments (if_used coming.children coming.drivers ending)

abbrev pub stopped_at : Pause → Control → World → Ending
stopped_at pause k w = Stopped pause.stop.kind pause.stop.failed k (with_state k w)

abbrev pub ending_of : Control → Left → End Pause (Unit {0}) → Spot Place → Ending
ending_of k left (Goes x) spot = Done spot.world
ending_of k left (Stops pause) spot = stopped_at pause (kept_after k left pause spot.place) spot.world
ending_of k left Starves spot = Starved

-- what a turn with this control and these lines comes to
abbrev pub read_by : Control → Left → Step Place Pause (Unit {0}) → Reading
read_by k left step = record { ending = if_all_used step.coming (ending_of k left step.end step.spot); asked = step.asked [] }

abbrev pub starved : Reading
starved = record { ending = Starved; asked = [] }

abbrev pub spot_of : Control → World → Spot Place
spot_of k w = record { world = w; place = place_of k }

abbrev pub gone_on : Again → Control → World → Coming → Result Going Denial → Reading
gone_on again k w coming (Ok going) = let k = taken_up again going k in read_by k (Lines going.left) (goes_on again going k (spot_of k w) coming)
gone_on again k w coming (Err denial) = starved

-- whether a turn goes on with a stopped list
abbrev pub resumes_in : Checks → Again → Turn → Control → Result Going Denial
resumes_in checks again turn k = resumes checks again turn.env turn.secs k turn.world

-- a stopped list is gone on with
unfoldable pub resumed : Checks → Again → Turn → Control → Coming → Reading
resumed checks again turn k coming = gone_on again k turn.world coming (resumes_in checks again turn k)

abbrev pub begun_with : Start → Coming → Result Setting Denial → Reading
begun_with start coming (Ok setting) =
    let k = start.plan.control in read_by k k.left (begins setting start (spot_of k start.world) coming)
begun_with start coming (Err denial) = starved

-- a list is started
unfoldable pub started : Checks → Turn → Start → Coming → Reading
started checks turn start coming = begun_with start coming (setting_at checks turn.env turn.secs turn.world)

abbrev pub first_turn : Checks → Action → Turn → Start → Coming → Reading
first_turn checks action.Start turn start coming = started checks turn start coming
first_turn checks (action.Goes again) turn start coming = starved

abbrev pub next_turn : Checks → Action → Turn → Control → Coming → Reading
next_turn checks action.Start turn k coming = starved
next_turn checks (action.Goes again) turn k coming = resumed checks again turn k coming

-- one turn more
abbrev pub turned : Checks → Ending → Turn → Coming → Reading
turned checks (Unstarted start) turn coming = first_turn checks turn.action turn start coming
turned checks (Done w) turn coming = starved
turned checks (Stopped why failed k w) turn coming = next_turn checks turn.action turn k coming
turned checks Starved turn coming = starved

abbrev pub follow : Checks → Reading → List Call → Reading
follow checks reading [] = reading
follow checks reading (call ∷ calls) = follow checks (turned checks reading.ending call.turn call.coming) calls

-- What a todo means over all turns of a tape, from its start on.
unfoldable pub meaning : Checks → Start → List Event → Reading
meaning checks start tape = follow checks (record { ending = Unstarted start; asked = [] }) (calls tape)

-- ---- whether a turn is heard

-- a turn is denied, or it is heard
pub data Verdict : Type 0 where
  Denied : Denial → Verdict
  Heard : Verdict

abbrev pub verdict_of : Result Going Denial → Verdict
verdict_of (Ok going) = Heard
verdict_of (Err denial) = Denied denial

-- A turn that goes on with a reading. Where no list is in progress there is nothing to go on with.
abbrev pub judged : Checks → Again → Turn → Ending → Verdict
judged checks again turn (Unstarted start) = Denied (Refused NothingInProgress)
judged checks again turn (Done w) = Denied (Refused NothingInProgress)
judged checks again turn (Stopped why failed k w) = verdict_of (resumes_in checks again turn k)
judged checks again turn Starved = Denied (Refused NothingInProgress)
