-- The tape: what happened to a list, from its start on, one event after another.
use Rattle.std.specs.Prelude.{ℤ, List, [], ◌∷◌}
use Rattle.seq_base.specs.World.{World}
use Rattle.seq_outside.specs.Tape.{Coming, Ended, SawChild, SawDrivers, SawMoment, all_ended, ended_of}
use Rattle.seq_outside.specs.Tape.{Event as Seen}
use Rattle.seq_outside.specs.declared.env.Env.{Env}
pub use Rattle.reading.specs.declared.again.Again.{Again}
pub use Rattle.reading.specs.declared.again.Again.TheVariants.{Continue, Skip}

-- what an invocation does with a list
pub data Action : Type 0 where
  Start : Action
  Goes : Again → Action

-- an invocation as it begins: what it is to do, its environment, its first moment, and the world that it finds
pub record Turn : Type 0 where
  pub action : Action
  pub env : Env
  pub secs : ℤ
  pub world : World

-- an invocation begins; and what is seen in it
pub data Event : Type 0 where
  Begins : Turn → Event
  Child : Ended → Event
  Drivers : List Ended → Event
  Moment : ℤ → Event

-- an invocation with what it sees, by sort
pub record Call : Type 0 where
  pub turn : Turn
  pub coming : Coming

abbrev pub nothing : Coming
nothing = record { children = []; drivers = []; moments = [] }

-- what is seen up to the next turn
abbrev pub seen_first : List Event → Coming
seen_first [] = nothing
seen_first (Begins turn ∷ events) = nothing
seen_first (Child e ∷ events) = let later = seen_first events in record later { children = e ∷ later.children }
seen_first (Drivers es ∷ events) = let later = seen_first events in record later { drivers = es ∷ later.drivers }
seen_first (Moment secs ∷ events) = let later = seen_first events in record later { moments = secs ∷ later.moments }

-- the turns of a tape, each with what was seen in it
abbrev pub calls : List Event → List Call
calls [] = []
calls (Begins turn ∷ events) = record { turn = turn; coming = seen_first events } ∷ calls events
calls (Child e ∷ events) = calls events
calls (Drivers es ∷ events) = calls events
calls (Moment secs ∷ events) = calls events

abbrev pub event_of : Seen → Event
event_of (SawChild n) = Child (ended_of n)
event_of (SawDrivers notes) = Drivers (all_ended notes)
event_of (SawMoment secs) = Moment secs

abbrev pub events_of : List Seen → List Event
events_of [] = []
events_of (one ∷ seen) = event_of one ∷ events_of seen

-- the events of a call, of which this was seen behind its first moment
abbrev pub this_call : Turn → List Seen → List Event
this_call turn seen = Begins turn ∷ events_of seen
