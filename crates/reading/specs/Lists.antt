-- A list of invocations, with whatever is done between them.
use Rattle.std.specs.Prelude.{◌≡◌, List, [], ◌∷◌, ◌++◌}
use Rattle.seq_base.specs.World.{World}
use Rattle.seq_model.specs.declared.outcome.Outcome.{Outcome}
use Rattle.seq_outside.specs.Tape.{Event as Seen}
use Rattle.reading.specs.Laws.{AnswersAsFound, AnswersAsRead}
use Rattle.reading.specs.Opening.{Checks}
use Rattle.reading.specs.Readings.{Denied, Done, Ending, Heard, Starved, Stopped, Unstarted, Verdict, judged, meaning}
use Rattle.reading.specs.Standing.{IsQuiet, Stands}
use Rattle.reading.specs.Starting.{Start}
use Rattle.reading.specs.Tapes.{Again, Event, Turn, this_call}
use Rattle.reading.specs.Tapes as action

-- an invocation that goes on with a list: what it finds, what is seen in it, what it answers and what it leaves
pub record Invocation : Type 0 where
  pub again : Again
  pub turn : Turn
  pub goes : turn.action ≡ action.Goes again
  pub seen : List Seen
  pub outcome : Outcome
  pub left : World

-- each answers as the control that it finds is gone on with
abbrev pub AllAsFound : Checks → List Invocation → Type 0
AllAsFound checks [] = Unit {0}
AllAsFound checks (i ∷ is) = AnswersAsFound checks i.again i.turn i.seen i.outcome i.left × AllAsFound checks is

-- between them the files of the list stay, but for its todo
abbrev pub AllQuiet : World → List Invocation → Type 0
AllQuiet w [] = Unit {0}
AllQuiet w (i ∷ is) = IsQuiet w i.turn.world × AllQuiet i.left is

-- of a reading that goes on; where it is done nothing more is said
abbrev pub IfStopped : Ending → Type 0 → Type 0
IfStopped (Stopped why failed k v) claim = claim
IfStopped (Done v) claim = Unit {0}
IfStopped (Unstarted start) claim = Unit {0}
IfStopped Starved claim = Unit {0}

-- A turn that is denied is none, and the next one is read over the same tape. One that is heard is on the tape of the next.
abbrev pub ByVerdict : Verdict → Ending → Type 0 → Type 0 → Type 0
ByVerdict (Denied denial) ending same further = same
ByVerdict Heard ending same further = IfStopped ending further

-- each answers what one uninterrupted reading over all turns so far gives
abbrev pub AllAsRead : Checks → Start → List Event → List Invocation → Type 0
AllAsRead checks start tape [] = Unit {0}
AllAsRead checks start tape (i ∷ is) =
    AnswersAsRead checks i.again i.turn i.seen i.outcome i.left start tape
    × ByVerdict (judged checks i.again i.turn (meaning checks start tape).ending) (meaning checks start (tape ++ this_call i.turn i.seen)).ending
    (AllAsRead checks start tape is) (AllAsRead checks start (tape ++ this_call i.turn i.seen) is)

-- Invocations that answer as what they find is gone on with answer what one reading gives, for every start and tape at which the first finds
-- the store, whatever is done between them but to the files of the list.
abbrev pub AreMeant : Checks → Type 0
AreMeant checks = (start : Start) (tape : List Event) (w : World) (is : List Invocation)
    → Stands (meaning checks start tape).ending w → AllQuiet w is → AllAsFound checks is → AllAsRead checks start tape is
