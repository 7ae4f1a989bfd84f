-- Steps over a world: each gives a value or stops, and leaves a world.
use Rattle.std.specs.Prelude.{◌≡◌, if◌then◌else◌, Result, Ok, Err}
use Rattle.std.specs.FinMap as map
use Rattle.seq_base.specs.Words.{Path, Text}
use Rattle.seq_base.specs.World.{World, is_blocked}
use Rattle.seq_outside.specs.declared.halt.Halt.{Halt}
use Rattle.seq_outside.specs.declared.halt.Halt.TheVariants.{Stops, Fault, Memory}
use Rattle.seq_outside.specs.declared.lack.Lack.{Lack}
use Rattle.seq_outside.specs.declared.lack.Lack.TheVariants.{Way}

-- how a step goes from a world: what it answers, or why it stops, and the world that it leaves
abbrev pub Turn : Type 0 → Type 0 → Type 0
Turn E X = World → Result X E × World

abbrev pub go_on : {E X Y : Type 0} → Result X E × World → (X → Turn E Y) → Result Y E × World
go_on (Ok x, w) next = next x w
go_on (Err why, w) next = (Err why, w)

-- the next step, where none has stopped
infixl 10 ◌>>=◌
abbrev pub ◌>>=◌ : {E X Y : Type 0} → Turn E X → (X → Turn E Y) → Turn E Y
(step >>= next) w = go_on (step w) next

-- a value alone
abbrev pub gives : {E X : Type 0} → X → Turn E X
gives x w = (Ok x, w)

abbrev pub looked : {E X : Type 0} → Result X E → Turn E X
looked found w = (found, w)

-- what is read
abbrev pub looks : {E X : Type 0} → (World → Result X E) → Turn E X
looks read w = (read w, w)

-- the same, for a reason that is told otherwise
abbrev pub turn_for : {E F X : Type 0} → (E → F) → Result X E × World → Result X F × World
turn_for told (Ok x, w) = (Ok x, w)
turn_for told (Err why, w) = (Err (told why), w)

abbrev pub saying : {E F X : Type 0} → (E → F) → Turn E X → Turn F X
saying told step w = turn_for told (step w)

-- a file that is put, unless another is in its way
unfoldable pub put_in : Path → Text → Turn Lack (Unit {0})
put_in path bytes w = if is_blocked w path then (Err (Way path), w) else (Ok tt, map.insert w path bytes)

-- a file that is removed, if it is there
abbrev pub removed : {E : Type 0} → Path → Turn E (Unit {0})
removed path w = (Ok tt, map.remove w path)

-- A step answered, or stopped for the reason that is told, and left the world that it is to, unless the store failed or memory ran out.
abbrev pub Turns : {E X Y : Type 0} → (X → Y) → Result X (Halt E) → Result Y E × World → World → Type 0
Turns view (Ok x) means new = means ≡ (Ok (view x), new)
Turns view (Err (Stops why)) means new = means ≡ (Err why, new)
Turns view (Err Fault) means new = Unit {0}
Turns view (Err Memory) means new = Unit {0}
