-- How a call that takes events from outside goes with the step that it is to do. It is said backwards: whatever is seen after the call, up to
-- any later spawner and clock, something was to be seen at its start with which the step does what the call did, and leaves that to be seen.
-- So calls compose, and nothing is owed of events that a step leaves alone.
use Rattle.std.specs.Prelude.{◌≡◌, ℤ, List, Result, Ok, Err}
use Rattle.seq_outside.specs.Child.{Noted}
use Rattle.seq_outside.specs.Doing.{Does, End, Goes, Spot, Step, Stops}
use Rattle.seq_outside.specs.Tape.{Ask, Event, Sees, asks, coming}
use Rattle.seq_outside.specs.declared.halt.Halt.{Halt}
use Rattle.seq_outside.specs.declared.halt.Halt.TheVariants as halts

-- Something was to be seen at the start, over which the step ends so, leaves that spot, and leaves the rest to be seen; and it asks for
-- what was handed in between.
pub record Foretold {P E X : Type 0} (before : List Event → Type 0) (does : Does P E X) (old : Spot P) (end : End E X) (new : Spot P) (rest : List Event) : Type 0 where
  pub this : List Event
  pub is : before this
  pub ends : (does old (coming this)).end ≡ end
  pub spot : (does old (coming this)).spot ≡ new
  pub left : (does old (coming this)).coming ≡ coming rest
  pub asked : asks this ≡ (does old (coming this)).asked (asks rest)

-- From one spawner and clock to others the step ends so, whatever is seen after it.
abbrev pub Comes : {A C P E X : Type 0} → (A → Noted → A → Type 0) → (C → ℤ → C → Type 0) → A → C → A → C → Does P E X → Spot P → End E X → Spot P
    → Type 0
Comes {A} {C} ran ticked a c a' c' does old end new =
    (q : A) (d : C) (rest : List Event) → Sees ran ticked a' c' rest q d → Foretold (λ this. Sees ran ticked a c this q d) does old end new rest

-- A call ends and leaves what the step does, its value seen by `view`, unless the store failed or memory ran out.
abbrev pub Follows : {A C P E X Y : Type 0} → (A → Noted → A → Type 0) → (C → ℤ → C → Type 0) → A → C → A → C → (X → Y) → Does P E Y → Spot P
    → Result X (Halt E) → Spot P → Type 0
Follows ran ticked a c a' c' view does old (Ok x) new = Comes ran ticked a c a' c' does old (Goes (view x)) new
Follows ran ticked a c a' c' view does old (Err (halts.Stops why)) new = Comes ran ticked a c a' c' does old (Stops why) new
Follows ran ticked a c a' c' view does old (Err halts.Fault) new = Unit {0}
Follows ran ticked a c a' c' view does old (Err halts.Memory) new = Unit {0}

-- ---- a loop on its way

-- What the one step comes to with this to be seen, the other comes to with that; and it asks for what was handed in between, before what the
-- other asks for.
abbrev pub Same : {P E X : Type 0} → List Event → Step P E X → List Event → Step P E X → Type 0
Same this start rest here =
    (start.end ≡ here.end) × (start.spot ≡ here.spot) × (start.coming ≡ here.coming)
    × ((more : List (List Ask)) → asks rest ≡ here.asked more → asks this ≡ start.asked more)

-- something was to be seen at the start, over which it comes to what comes of the rest from here
pub record Begun {P E X : Type 0} (before : List Event → Type 0) (start : Does P E X) (old : Spot P) (here : Does P E X) (now : Spot P) (rest : List Event) : Type 0 where
  pub this : List Event
  pub is : before this
  pub same : Same this (start old (coming this)) rest (here now (coming rest))

-- From one spawner and clock to others a loop has come from the one step to the other.
abbrev pub ComesTo : {A C P E X : Type 0} → (A → Noted → A → Type 0) → (C → ℤ → C → Type 0) → A → C → A → C → Does P E X → Spot P → Does P E X
    → Spot P → Type 0
ComesTo {A} {C} ran ticked a c a' c' start old here now =
    (q : A) (d : C) (rest : List Event) → Sees ran ticked a' c' rest q d → Begun (λ this. Sees ran ticked a c this q d) start old here now rest

-- ---- a whole call

-- From the one spawner and clock to the other this was seen, and of it this holds.
pub record Saw {A C : Type 0} (ran : A → Noted → A → Type 0) (ticked : C → ℤ → C → Type 0) (a : A) (c : C) (a' : A) (c' : C) (claim : List Event → Type 0) : Type 0 where
  pub this : List Event
  pub sees : Sees ran ticked a c this a' c'
  pub so : claim this
