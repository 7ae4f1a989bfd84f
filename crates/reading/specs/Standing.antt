-- What an invocation answers, by the reading over all turns so far.
use Rattle.std.specs.Prelude.{◌≡◌, Bool, true, false, ◌&&◌, if◌then◌else◌, List, [], ◌++◌, Option, Some, None, Result, Ok, Err}
use Rattle.std.specs.FinMap as map
use Rattle.std.specs.Str.{bytes_eq}
use Rattle.seq_base.specs.StatePaths.{is_state_path}
use Rattle.seq_base.specs.Words.{Id, Path}
use Rattle.seq_base.specs.World.{World}
use Rattle.seq_model.specs.declared.denial.Denial.{Denial}
use Rattle.seq_model.specs.declared.denial.Denial.TheVariants as denied
use Rattle.seq_model.specs.declared.outcome.Outcome.{Outcome}
use Rattle.seq_model.specs.declared.outcome.Outcome.TheVariants as outcome
use Rattle.seq_model.specs.declared.reason.Reason.{Reason}
use Rattle.seq_model.specs.declared.stop.StopKind.{StopKind}
use Rattle.seq_model.specs.declared.stop.StopKind.TheVariants as kind
use Rattle.seq_outside.specs.Tape.{Ask, Coming, Event, asks, coming}
use Rattle.stage_index.specs.Unmerged.{unmerged_paths}
use Rattle.reading.specs.Beginning.{NotBegun}
use Rattle.reading.specs.Beginning as verdict
use Rattle.state_text.specs.declared.control.Control.{Control}
use Rattle.state_text.specs.declared.control.Left.{Left}
use Rattle.state_text.specs.declared.verb.Verb.TheVariants.{Rebase}
use Rattle.state_text.specs.Places.{folder_of}
use Rattle.state_found.specs.Found.{IsPaused, has_files}
use Rattle.line_steps.specs.Heads.{head_found, index_found}
use Rattle.reading.specs.Opening.{Checks}
use Rattle.reading.specs.Readings.{Denied, Done, Ending, Heard, Reading, Starved, Stopped, Unstarted, Verdict, meaning}
use Rattle.reading.specs.Starting.{Start}
use Rattle.reading.specs.State.{todo_path}
use Rattle.reading.specs.Tapes.{Turn, this_call}
use Rattle.line_steps.specs.Writing.{entries_or_none}

-- ---- what is answered

abbrev pub head_or_none : Result Id Reason → Option Id
head_or_none (Ok id) = Some id
head_or_none (Err why) = None

-- the paths that are told of a stop
abbrev pub paths_of : StopKind → World → List Path
paths_of kind.Conflict w = unmerged_paths (entries_or_none (index_found w))
paths_of _ w = []

-- a stop that a child made which could not be run is answered as that
abbrev pub stopped_as : StopKind → Bool → World → Outcome
stopped_as why failed w = if failed then outcome.ChildFault else outcome.Stopped why (paths_of why w)

-- ---- where a store stands

-- a control whose lines that are left do not matter: they are read from the todo as it is found
abbrev pub with_left : Left → Control → Control
with_left left k = record k { left = left }

-- the files of a list tell the control; its todo may be another
abbrev pub Tells : Control → World → Type 0
Tells k w = (left : Left) × IsPaused w (with_left left k)

-- The files tell the control with which the reading has stopped.
abbrev pub Stands : Ending → World → Type 0
Stands (Stopped why failed k v) w = Tells k w
Stands (Unstarted start) w = ⊥
Stands (Done v) w = ⊥
Stands Starved w = ⊥

-- ---- between invocations

-- the todo of a rebase that is in progress
abbrev pub is_todo : World → Path → Bool
is_todo w path = bytes_eq path todo_path && has_files w (folder_of Rebase)

-- Two worlds have the same files of a list, and the same labels, but for the todo of a rebase.
abbrev pub IsQuiet : World → World → Type 0
IsQuiet old new = (path : Path) → is_state_path path ≡ true → is_todo old path ≡ false → map.get new path ≡ map.get old path

-- what the files tell is told by these alone
abbrev pub TellsByFiles : Type 0
TellsByFiles = (old new : World) (k : Control) → IsQuiet old new → IsPaused old k → Tells k new

-- ---- what a turn answers

-- The outcome and the world are those of the ending, where it has one. At a stop the files tell its control.
abbrev pub Agrees : Ending → Outcome → World → Type 0
Agrees (Done v) o w = (o ≡ outcome.Done (head_or_none (head_found v))) × (w ≡ v)
Agrees (Stopped why failed k v) o w = (o ≡ stopped_as why failed v) × (w ≡ v) × Tells k w
Agrees (Unstarted start) o w = ⊥
Agrees Starved o w = ⊥

-- The reading ends as it was answered, and has asked for just what was handed in.
pub record EndsBy (this : List Event) (reading : Reading) (o : Outcome) (w : World) : Type 0 where
  pub agrees : Agrees reading.ending o w
  pub asked : reading.asked ≡ asks this

-- ---- a denied turn

abbrev pub denied_as : Denial → Outcome
denied_as (denied.Refused refusal) = outcome.Refused refusal
denied_as (denied.Limit what number) = outcome.Limit what number

-- a turn that is denied is none: it changes nothing, and hands in no job
abbrev pub Turned : List Event → Verdict → Reading → Outcome → World → World → Type 0
Turned this (Denied denial) reading o old new = (o ≡ denied_as denial) × (new ≡ old) × (asks this ≡ [])
Turned this Heard reading o old new = EndsBy this reading o new

-- ---- where a store stands behind a turn

-- the world is that of a reading that is done; or its files tell the control of a stop
abbrev pub StandsOrDone : Ending → World → Type 0
StandsOrDone (Done v) w = w ≡ v
StandsOrDone (Stopped why failed k v) w = Tells k w
StandsOrDone (Unstarted start) w = ⊥
StandsOrDone Starved w = ⊥

-- a turn that is denied leaves the store where it stood, and one that is heard at the reading over one turn more
abbrev pub StandsAfter : Verdict → Ending → Ending → World → Type 0
StandsAfter (Denied denial) before after w = Stands before w
StandsAfter Heard before after w = StandsOrDone after w

-- ---- a start

-- A start that has begun agrees with the reading over its turn and over what was seen behind its own children. What it asked for is what they
-- were, and then what the reading asks for.
pub record BegunAs (checks : Checks) (turn : Turn) (this : List Event) (start : Start) (left : Coming) (asked : List (List Ask))
    (o : Outcome) (w : World) : Type 0 where
  pub rest : List Event
  pub left_is : left ≡ coming rest
  pub agrees : Agrees (meaning checks start (this_call turn rest)).ending o w
  pub asked_is : asks this ≡ asked ++ (meaning checks start (this_call turn rest)).asked

abbrev pub not_begun_as : NotBegun → Outcome
not_begun_as ends = if ends.failed then outcome.ChildFault else denied_as ends.why

-- by the verdict of its checks: a start that is denied leaves what its own children did
abbrev pub StartedAs : Checks → Turn → List Event → verdict.Verdict → Outcome → World → Type 0
StartedAs checks turn this (verdict.Denied ends w asked) o new = (o ≡ not_begun_as ends) × (new ≡ w) × (asks this ≡ asked)
StartedAs checks turn this (verdict.Begun begun left asked) o new = BegunAs checks turn this begun left asked o new
StartedAs checks turn this verdict.Starved o new = ⊥
