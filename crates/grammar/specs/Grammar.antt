-- A grammar says which texts spell which values: spells x text.
use Rattle.std.specs.Prelude.{◌≡◌, ℕ, ◌+◌, ◌<◌, ◌≤◌, List, [], ◌∷◌, ◌++◌, length, take, Result, Ok, Err}

-- each is a byte
abbrev pub AllBytes : List ℕ → Type 0
AllBytes [] = Unit {0}
AllBytes (b ∷ bs) = (b < 256) × AllBytes bs

-- a text of the grammar begins so
abbrev pub GoesOn : {X : Type 0} → (X → List ℕ → Type 0) → List ℕ → Type 0
GoesOn {X} spells front = (x : X) × (rest : List ℕ) × AllBytes rest × spells x (front ++ rest)

-- Bytes that are no text of the grammar: the place of the first with which no text goes on,
-- or their length where they end too early.
pub record IsFirstBad {X : Type 0} (spells : X → List ℕ → Type 0) (bytes : List ℕ) (at : ℕ) : Type 0 where
  pub within : at ≤ length bytes
  pub goes_on : GoesOn spells (take at bytes)
  pub no_further : at < length bytes → GoesOn spells (take (at + 1) bytes) → ⊥
  pub no_text : (x : X) → spells x bytes → ⊥

-- What was read, seen by view, is what the bytes spell, and the only thing that they spell; else there is a fault as IsFault says.
abbrev pub IsReading : {V X E : Type 0} → (V → X) → (E → Type 0) → (X → List ℕ → Type 0) → List ℕ → Result V E → Type 0
IsReading {V} {X} view IsFault spells bytes (Ok v) = spells (view v) bytes × ((x : X) → spells x bytes → x ≡ view v)
IsReading view IsFault spells bytes (Err e) = IsFault e
