-- Writes as data: a list of changes of files, and what a world is after them.
use Rattle.std.specs.Prelude.{◌≡◌, ◌⊎◌, ℕ, Bool, true, false, not, ◌&&◌, ◌||◌, Option, Some, None, Result, Ok, Err}
use Rattle.std.specs.Prelude.{List, [], ◌∷◌, ◌++◌, take, filter, codes}
use Rattle.std.specs.FinMap as map
use Rattle.std.specs.List.{list_any}
use Rattle.std.specs.Ordering.{eq_by_cmp}
use Rattle.seq_base.specs.Words.{Path, Text}
use Rattle.seq_base.specs.StorePaths.{IsStorePath}
use Rattle.seq_base.specs.World.{World, is_below, is_blocked, path_cmp}
use Rattle.seq_outside.specs.declared.halt.Halt.{Halt}
use Rattle.seq_outside.specs.declared.halt.Halt.TheVariants as halts
use Rattle.seq_outside.specs.declared.store.StoreError.{StoreError}
use Rattle.seq_outside.specs.declared.store.StoreError.TheVariants.{Failed, Blocked, Memory}
use Rattle.seq_outside.specs.declared.write.Write.{Write}
use Rattle.seq_outside.specs.declared.write.Write.TheVariants.{Put, Remove}

-- the file that is changed
abbrev pub path_of : Write → Path
path_of (Put path bytes) = path
path_of (Remove path) = path

-- what the write leaves of its file
abbrev pub left_by : Write → Option Text
left_by (Put path bytes) = Some bytes
left_by (Remove path) = None

-- the write changes this file
abbrev pub is_at : Path → Write → Bool
is_at path write = eq_by_cmp path_cmp path (path_of write)

-- the world after a write
abbrev pub after : World → Write → World
after w (Put path bytes) = map.insert w path bytes
after w (Remove path) = map.remove w path

-- the world after writes, one after another
abbrev pub written : World → List Write → World
written w [] = w
written w (write ∷ writes) = written (after w write) writes

-- a path that a write names
abbrev pub is_written : List Write → Path → Bool
is_written writes path = list_any (is_at path) writes

-- no write is blocked where the world has what it is then
abbrev pub is_free : World → Write → Bool
is_free w (Put path bytes) = not (is_blocked w path)
is_free w (Remove path) = true

abbrev pub are_free : World → List Write → Bool
are_free w [] = true
are_free w (write ∷ writes) = is_free w write && are_free (after w write) writes

abbrev pub HasStorePath : Write → Type 0
HasStorePath write = IsStorePath (path_of write)

-- What one write leaves. One that failed leaves the file as it was or as it was to be.
abbrev pub WriteLeaves : {T : Type 0} → Result T StoreError → World → Write → World → Type 0
WriteLeaves (Ok x) old write new = (is_free old write ≡ true) × (new ≡ after old write)
WriteLeaves (Err Failed) old write new = (new ≡ old) ⊎ ((is_free old write ≡ true) × (new ≡ after old write))
WriteLeaves (Err Blocked) old write new = (is_free old write ≡ false) × (new ≡ old)
WriteLeaves (Err Memory) old write new = new ≡ old

-- The same of a step that makes it: one that stopped left all as it was.
abbrev pub StepLeaves : {X E : Type 0} → Result X (Halt E) → World → Write → World → Type 0
StepLeaves (Ok x) old write new = new ≡ after old write
StepLeaves (Err (halts.Stops why)) old write new = new ≡ old
StepLeaves (Err halts.Fault) old write new = (new ≡ old) ⊎ (new ≡ after old write)
StepLeaves (Err halts.Memory) old write new = new ≡ old

-- ---- the order in which changes are made

-- a file below the folder of objects
abbrev pub is_object_file : Path → Bool
is_object_file path = is_below (codes ".git/objects") path

-- such a file, or one in the place of that folder
abbrev pub is_about_objects : Path → Bool
is_about_objects path = is_object_file path || is_below path (codes ".git/objects/")

-- the write is of an object's file, or makes room for such files
abbrev pub is_of_objects : Write → Bool
is_of_objects (Put path bytes) = is_object_file path
is_of_objects (Remove path) = is_about_objects path

abbrev pub is_of_others : Write → Bool
is_of_others write = not (is_of_objects write)

-- The writes of objects before all others, each in its place else. An object that is removed goes with the first: before a ref that
-- named it is changed.
abbrev pub objects_first : List Write → List Write
objects_first writes = filter is_of_objects writes ++ filter is_of_others writes

-- a front of the writes was made
pub record IsFront (old : World) (writes : List Write) (now : World) : Type 0 where
  pub made : ℕ
  pub is : now ≡ written old (take made writes)

-- each file is as it was, or as it is to be
abbrev pub IsBetween : World → World → World → Type 0
IsBetween old aim now = (path : Path) → (map.get now path ≡ map.get old path) ⊎ (map.get now path ≡ map.get aim path)

-- No file but objects is another one yet, or each object is as it is to be: so, where none is removed, nothing names an object that
-- is missing.
abbrev pub AreObjectsFirst : World → World → World → Type 0
AreObjectsFirst old aim now =
    ((path : Path) → is_about_objects path ≡ false → map.get now path ≡ map.get old path)
    ⊎ ((path : Path) → is_object_file path ≡ true → map.get now path ≡ map.get aim path)

-- some writes lead from the one world to the other, each file's one, and a front of them was made, objects before all else
pub record IsOnTheWay (old aim now : World) : Type 0 where
  pub writes : List Write
  pub leads : written old writes ≡ aim
  pub front : IsFront old writes now
  pub between : IsBetween old aim now
  pub objects : AreObjectsFirst old aim now

-- nothing is changed, or some of the changes were made
abbrev pub IsToward : World → World → World → Type 0
IsToward old aim now = (now ≡ old) ⊎ IsOnTheWay old aim now
