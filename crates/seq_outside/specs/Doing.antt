-- Steps that also take events from outside: a step is given where a list stands and what is still to come, and gives both as it leaves
-- them. It ends with a value, it stops for a reason, or it starves, for want of an event.
use Rattle.std.specs.Prelude.{ℤ, Bool, true, false, List, [], ◌∷◌, Result, Ok, Err}
use Rattle.seq_base.specs.World.{World}
use Rattle.seq_outside.specs.Tape.{Ask, Coming, Ended}
use Rattle.seq_outside.specs.Turns.{Turn}
use Rattle.seq_outside.specs.declared.child.Job.{Job}

-- where a list stands: what the store holds, and a place beside it
pub record Spot (P : Type 0) : Type 0 where
  pub world : World
  pub place : P

-- how a step ends
pub data End (E X : Type 0) : Type 0 where
  Goes : X → End E X
  Stops : E → End E X
  Starves : End E X

-- how a step ends, what it leaves, and what it asks for before all that is asked for later
pub record Step (P E X : Type 0) : Type 0 where
  pub end : End E X
  pub spot : Spot P
  pub coming : Coming
  pub asked : List (List Ask) → List (List Ask)

abbrev pub Does : Type 0 → Type 0 → Type 0 → Type 0
Does P E X = Spot P → Coming → Step P E X

abbrev pub no_ask : List (List Ask) → List (List Ask)
no_ask more = more

-- ---- one after another

abbrev pub go_on : {P E X Y : Type 0} → End E X → Spot P → Coming → (List (List Ask) → List (List Ask)) → (X → Does P E Y) → Step P E Y
go_on (Goes x) spot coming asked next = let then = next x spot coming in record then { asked = λ more. asked (then.asked more) }
go_on (Stops why) spot coming asked next = record { end = Stops why; spot = spot; coming = coming; asked = asked }
go_on Starves spot coming asked next = record { end = Starves; spot = spot; coming = coming; asked = asked }

-- the next step, where none has stopped
infixl 10 ◌>>=◌
abbrev pub ◌>>=◌ : {P E X Y : Type 0} → Does P E X → (X → Does P E Y) → Does P E Y
(step >>= next) spot coming = let first = step spot coming in go_on first.end first.spot first.coming first.asked next

abbrev pub ended_with : {P E X : Type 0} → End E X → Does P E X
ended_with end spot coming = record { end = end; spot = spot; coming = coming; asked = no_ask }

-- a value alone
abbrev pub gives : {P E X : Type 0} → X → Does P E X
gives x = ended_with (Goes x)

abbrev pub stops : {P E X : Type 0} → E → Does P E X
stops why = ended_with (Stops why)

abbrev pub stops_if : {P E : Type 0} → Bool → E → Does P E (Unit {0})
stops_if true why = stops why
stops_if false why = gives tt

-- the same, for a reason that is told otherwise
abbrev pub end_for : {E F X : Type 0} → (E → F) → End E X → End F X
end_for told (Goes x) = Goes x
end_for told (Stops why) = Stops (told why)
end_for told Starves = Starves

abbrev pub saying : {P E F X : Type 0} → (E → F) → Does P E X → Does P F X
saying told step spot coming =
    let first = step spot coming in record { end = end_for told first.end; spot = first.spot; coming = first.coming; asked = first.asked }

-- ---- with what the store holds

abbrev pub looked : {P E X : Type 0} → Result X E → Does P E X
looked (Ok x) = gives x
looked (Err why) = stops why

-- what is read
abbrev pub looks : {P E X : Type 0} → (World → Result X E) → Does P E X
looks read spot coming = looked (read spot.world) spot coming

abbrev pub left_at : {P E X : Type 0} → Result X E × World → P → Does P E X
left_at (Ok x, w) place spot coming = record { end = Goes x; spot = record { world = w; place = place }; coming = coming; asked = no_ask }
left_at (Err why, w) place spot coming = record { end = Stops why; spot = record { world = w; place = place }; coming = coming; asked = no_ask }

-- what is written
abbrev pub makes : {P E X : Type 0} → Turn E X → Does P E X
makes turn spot coming = left_at (turn spot.world) spot.place spot coming

-- ---- with the place beside it

abbrev pub place : {P E : Type 0} → Does P E P
place spot coming = record { end = Goes spot.place; spot = spot; coming = coming; asked = no_ask }

abbrev pub places : {P E : Type 0} → (P → P) → Does P E (Unit {0})
places change spot coming = record { end = Goes tt; spot = record { world = spot.world; place = change spot.place }; coming = coming; asked = no_ask }

abbrev pub spot_within : {P Q : Type 0} → (Q → P → P) → P → Spot Q → Spot P
spot_within put place spot = record { world = spot.world; place = put spot.place place }

-- a step that knows a part of the place alone
abbrev pub within : {P Q E X : Type 0} → (P → Q) → (Q → P → P) → Does Q E X → Does P E X
within part put step spot coming =
    let first = step (record { world = spot.world; place = part spot.place }) coming in
    record { end = first.end; spot = spot_within put spot.place first.spot; coming = first.coming; asked = first.asked }

-- ---- events

abbrev pub one_ask : Job → World → List (List Ask) → List (List Ask)
one_ask job over more = (record { job = job; over = over } ∷ []) ∷ more

abbrev pub child_in : {P E : Type 0} → Job → List Ended → Does P E Ended
child_in job [] spot coming = record { end = Starves; spot = spot; coming = coming; asked = one_ask job spot.world }
child_in job (e ∷ others) spot coming = record {
  end = Goes e;
  spot = record { world = e.left; place = spot.place };
  coming = record coming { children = others };
  asked = one_ask job spot.world;
}

-- a child is run, and leaves its world; one that could not be run counts as killed
abbrev pub child_ends : {P E : Type 0} → Job → Does P E Ended
child_ends job spot coming = child_in job coming.children spot coming

abbrev pub moment_in : {P E : Type 0} → List ℤ → Does P E ℤ
moment_in [] spot coming = record { end = Starves; spot = spot; coming = coming; asked = no_ask }
moment_in (secs ∷ others) spot coming = record { end = Goes secs; spot = spot; coming = record coming { moments = others }; asked = no_ask }

-- the clock tells a moment
abbrev pub ticks : {P E : Type 0} → Does P E ℤ
ticks spot coming = moment_in coming.moments spot coming
