-- The laws of a reading, as the calls that work by it cite them.
use Rattle.std.specs.Prelude.{◌≡◌, ℤ, Bool, true, if◌then◌else◌, List, ◌++◌, Option, None, Result}
use Rattle.std.specs.FinMap as map
use Rattle.objects.specs.Named.{commit_named}
use Rattle.path_trees.specs.Named.{commit_map}
use Rattle.seq_base.specs.PathMaps.{Entries}
use Rattle.seq_base.specs.StatePaths.{is_state_path}
use Rattle.seq_base.specs.Words.{Id, Path, Text}
use Rattle.seq_base.specs.World.{World}
use Rattle.seq_model.specs.declared.outcome.Outcome.{Outcome}
use Rattle.seq_model.specs.declared.stop.StopKind.{StopKind}
use Rattle.seq_outside.specs.Child.{Noted}
use Rattle.seq_outside.specs.Doing.{◌>>=◌, Does, End, Goes, Spot, Stops, child_ends, looks}
use Rattle.seq_outside.specs.Follows.{Comes, Saw}
use Rattle.seq_outside.specs.Tape.{asks, coming}
use Rattle.seq_outside.specs.declared.child.Job.{Job}
use Rattle.seq_outside.specs.Tape.{Event as Seen}
use Rattle.state_text.specs.States.{state_files}
use Rattle.state_text.specs.Stops.{said_by}
use Rattle.state_text.specs.declared.control.Control.{Control}
use Rattle.state_text.specs.declared.control.Left.{Left}
use Rattle.reading.specs.Apart.{GoesApart, ReadsApart}
use Rattle.line_steps.specs.Finding.{Picked, found_at, sides_at}
use Rattle.line_steps.specs.Heads.{head_found, index_found}
use Rattle.reading.specs.Opening.{Checks}
use Rattle.line_steps.specs.Places.{Doing}
use Rattle.line_steps.specs.declared.place.Place.{Place}
use Rattle.line_steps.specs.declared.stop.Stop.{Stop}
use Rattle.reading.specs.Readings.{Ending, Stopped, ending_of, judged, meaning, read_by, resumed, resumes_in, turned, verdict_of}
use Rattle.state_found.specs.Found.{IsPaused}
use Rattle.reading.specs.Stages.{Pause, before_line_does, line_does}
use Rattle.line_steps.specs.declared.setting.Setting.{Setting}
use Rattle.line_steps.specs.Making.{makers}
use Rattle.state_text.specs.declared.options.Options.{Options}
use Rattle.todo_text.specs.declared.line.Line.TheVariants.{Break, Exec, Noop, Pick}
use Rattle.todo_text.specs.declared.line.PickKind.TheVariants as pick
use Rattle.reading.specs.Standing.{IsQuiet, Stands, StandsAfter, Turned}
use Rattle.reading.specs.Starting.{Start}
use Rattle.reading.specs.State.{chain_files, chain_items, is_list_file, with_state, without_state}
use Rattle.reading.specs.Tapes.{Again, Event, Turn, this_call}
use Rattle.reading.specs.Tapes as action

-- A step that has gone on, from one spawner and clock to others, and the next one from there: from the first to the last it is the one step
-- behind the other.
abbrev pub Compose : {A C : Type 0} → (A → Noted → A → Type 0) → (C → ℤ → C → Type 0) → Type 0 → Type 0 → Type 0
Compose {A} {C} ran ticked X Y =
    (a a' a'' : A) (c c' c'' : C) (first : Doing X) (next : X → Doing Y) (old mid new : Spot Place) (x : X) (end : End Stop Y)
    → Comes ran ticked a c a' c' first old (Goes x) mid → Comes ran ticked a' c' a'' c'' (next x) mid end new
    → Comes ran ticked a c a'' c'' (first >>= next) old end new

-- and where the first stops, so do both
abbrev pub StopTogether : {A C : Type 0} → (A → Noted → A → Type 0) → (C → ℤ → C → Type 0) → Type 0 → Type 0 → Type 0
StopTogether {A} {C} ran ticked X Y = (a a' : A) (c c' : C) (first : Doing X) (next : X → Doing Y) (old mid : Spot Place) (why : Stop)
    → Comes ran ticked a c a' c' first old (Stops why) mid → Comes ran ticked a c a' c' (first >>= next) old (Stops why) mid

-- What a turn comes to, from one spawner and clock to others, is read of what was seen in it, and it has asked for just that.
abbrev pub IsRead : {A C : Type 0} → (A → Noted → A → Type 0) → (C → ℤ → C → Type 0) → Type 0
IsRead {A} {C} ran ticked =
    (a a' : A) (c c' : C) (k : Control) (left : Left) (does : Does Place Pause (Unit {0})) (old new : Spot Place) (end : End Pause (Unit {0}))
    → Comes ran ticked a c a' c' does old end new
    → Saw ran ticked a c a' c' (λ this. read_by k left (does old (coming this)) ≡ record { ending = ending_of k left end new; asked = asks this })

-- The reading over a tape and a further turn is that over the tape, gone on with.
abbrev pub GoesOn : Checks → Type 0
GoesOn checks = (start : Start) (tape : List Event) (turn : Turn) (seen : List Seen)
    → meaning checks start (tape ++ this_call turn seen) ≡ turned checks (meaning checks start tape).ending turn (coming seen)

-- Whatever control a turn finds, it answers as that is gone on with.
abbrev pub AnswersAsFound : Checks → Again → Turn → List Seen → Outcome → World → Type 0
AnswersAsFound checks again turn seen o new = (k : Control) → IsPaused turn.world k
    → Turned seen (verdict_of (resumes_in checks again turn k)) (resumed checks again turn k (coming seen)) o turn.world new

-- It answers what the reading over this tape and this turn gives.
abbrev pub AnswersAsRead : Checks → Again → Turn → List Seen → Outcome → World → Start → List Event → Type 0
AnswersAsRead checks again turn seen o new start tape =
    let before = (meaning checks start tape).ending in
    Turned seen (judged checks again turn before) (meaning checks start (tape ++ this_call turn seen)) o turn.world new

-- A turn that answers as what it finds is gone on with answers, for every start and tape whose reading the store stands at, what the reading over
-- one turn more gives; and one that is denied is none.
abbrev pub IsMeant : Checks → Type 0
IsMeant checks = (again : Again) (turn : Turn) (seen : List Seen) (o : Outcome) (new : World)
    → turn.action ≡ action.Goes again → AnswersAsFound checks again turn seen o new
    → (start : Start) (tape : List Event) → Stands (meaning checks start tape).ending turn.world
    → AnswersAsRead checks again turn seen o new start tape

-- Where a reading has stopped, its world has the files of its control.
abbrev pub AreKept : Checks → Type 0
AreKept checks = (start : Start) (tape : List Event) (why : StopKind) (failed : Bool) (k : Control) (v : World)
    → (meaning checks start tape).ending ≡ Stopped why failed k v → (x : World) × (v ≡ with_state k x)

abbrev pub StandsBehind : Checks → Again → Turn → Ending → Ending → World → Type 0
StandsBehind checks again turn before after w = StandsAfter (judged checks again turn before) before after w

-- A turn that is denied is none: the store stands where it stood. One that is heard leaves it at the reading over one turn more.
abbrev pub StandsOn : Checks → Type 0
StandsOn checks = (again : Again) (turn : Turn) (seen : List Seen) (o : Outcome) (new : World) (start : Start) (tape : List Event)
    → Stands (meaning checks start tape).ending turn.world
    → AnswersAsRead checks again turn seen o new start tape
    → StandsBehind checks again turn (meaning checks start tape).ending (meaning checks start (tape ++ this_call turn seen)).ending new

-- HEAD, commits, maps and the index are read without the files of a list, also as a pick reads them.
pub record IsApart : Type 0 where
  pub heads : ReadsApart head_found
  pub commits : (id : Id) → ReadsApart (λ w. commit_named w id)
  pub maps : (id : Id) → ReadsApart (λ w. commit_map w id)
  pub indices : ReadsApart index_found
  pub founds : (head : Id) → ReadsApart (found_at head)
  pub sides : (ours : Entries) (pick : Picked) → ReadsApart (sides_at ours pick)

-- Steps that go without them go so one after another.
pub record StepsApart (P E X Y : Type 0) : Type 0 where
  pub looks : (read : World → Result X E) → ReadsApart read → GoesApart {P = P} (looks read)
  pub children : (job : Job) → GoesApart {P = P} {E = E} (child_ends job)
  pub one_by_one : (first : Does P E X) (next : X → Does P E Y) → GoesApart first → ((x : X) → GoesApart (next x)) → GoesApart (first >>= next)

-- Lines that look at none of them, and what comes before a line.
pub record LinesApart (setting : Setting) (options : Options) : Type 0 where
  pub before : GoesApart before_line_does
  pub noops : GoesApart (line_does makers setting options Noop)
  pub drops : (rev note : Text) → GoesApart (line_does makers setting options (Pick pick.Drop rev note))
  pub breaks : GoesApart (line_does makers setting options Break)
  pub execs : (command : Text) → GoesApart (line_does makers setting options (Exec command))

-- What stands at a path beside the files of a list.
abbrev pub beside_list : World → Path → Option Text
beside_list w path = if is_list_file path then None else map.get w path

-- At a stop each path has what the files of the control say of it, and no other file of a list is there.
abbrev pub FilesAreKept : Type 0
FilesAreKept = (k : Control) (w : World) (path : Path)
    → map.get (with_state k w) path ≡ said_by (beside_list w path) (state_files k ++ chain_files (chain_items w k.chain)) path

-- Behind the end of a list, and where it is given up or left as it stands, there is no file of it and no loose label.
abbrev pub NoneIsLeft : Type 0
NoneIsLeft = (w : World) (path : Path) → is_state_path path ≡ true → map.get (without_state w) path ≡ None

-- Whatever is changed between invocations, but for the files of the list, the store stands where it stood; the todo may be edited.
abbrev pub StandsThrough : Type 0
StandsThrough = (ending : Ending) (old new : World) → IsQuiet old new → Stands ending old → Stands ending new
