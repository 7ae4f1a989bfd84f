-- What an invocation sees of the outside, and what a reading still has of it.
use Rattle.std.specs.Prelude.{◌≡◌, ℤ, Bool, true, false, List, [], ◌∷◌}
use Rattle.seq_base.specs.World.{World}
use Rattle.seq_outside.specs.Child.{Noted}
use Rattle.seq_outside.specs.declared.child.Exit.{Exit}
use Rattle.seq_outside.specs.declared.child.Exit.TheVariants.{Killed}
use Rattle.seq_outside.specs.declared.child.Job.{Job}

-- ---- events

-- a child that ended, the merge drivers of a line, which ended in the order of their jobs, or a moment
pub data Event : Type 0 where
  SawChild : Noted → Event
  SawDrivers : List Noted → Event
  SawMoment : ℤ → Event

-- From a spawner and a clock to others this was seen, one after another.
module _ {P C : Type 0} (ran : P → Noted → P → Type 0) (ticked : C → ℤ → C → Type 0) where
  -- drivers, one after another
  abbrev pub Drives : P → List Noted → P → Type 0
  Drives p [] q = q ≡ p
  Drives p (n ∷ notes) q = (next : P) × ran p n next × Drives next notes q

  unfoldable pub Sees : P → C → List Event → P → C → Type 0
  Sees p c [] q d = (q ≡ p) × (d ≡ c)
  Sees p c (SawChild n ∷ events) q d = (next : P) × ran p n next × Sees next c events q d
  Sees p c (SawDrivers notes ∷ events) q d = (next : P) × Drives p notes next × Sees next c events q d
  Sees p c (SawMoment secs ∷ events) q d = (next : C) × ticked c secs next × Sees p next events q d

-- ---- what is still to come

-- how a child ended, and what it left
pub record Ended : Type 0 where
  pub exit : Exit
  pub left : World
  pub failed : Bool

-- What a turn has still to come, by sort: between sorts the order has no meaning.
pub record Coming : Type 0 where
  pub children : List Ended
  pub drivers : List (List Ended)
  pub moments : List ℤ

-- a child that could not be run counts as killed
abbrev pub exit_seen : Exit → Bool → Exit
exit_seen exit true = Killed
exit_seen exit false = exit

abbrev pub ended_of : Noted → Ended
ended_of n = record { exit = exit_seen n.exit n.failed; left = n.left; failed = n.failed }

abbrev pub all_ended : List Noted → List Ended
all_ended [] = []
all_ended (n ∷ notes) = ended_of n ∷ all_ended notes

-- what is seen, by sort
abbrev pub coming : List Event → Coming
coming [] = record { children = []; drivers = []; moments = [] }
coming (SawChild n ∷ events) = let later = coming events in record later { children = ended_of n ∷ later.children }
coming (SawDrivers notes ∷ events) = let later = coming events in record later { drivers = all_ended notes ∷ later.drivers }
coming (SawMoment secs ∷ events) = let later = coming events in record later { moments = secs ∷ later.moments }

-- ---- what was asked for

-- jobs that are handed in, each over a content: one child, or the drivers of a line
pub record Ask : Type 0 where
  pub job : Job
  pub over : World

abbrev pub ask_of : Noted → Ask
ask_of n = record { job = n.job; over = n.over }

abbrev pub all_asked : List Noted → List Ask
all_asked [] = []
all_asked (n ∷ notes) = ask_of n ∷ all_asked notes

-- the jobs that were handed in, those of a pool together
abbrev pub asks : List Event → List (List Ask)
asks [] = []
asks (SawChild n ∷ events) = (ask_of n ∷ []) ∷ asks events
asks (SawDrivers notes ∷ events) = all_asked notes ∷ asks events
asks (SawMoment secs ∷ events) = asks events
