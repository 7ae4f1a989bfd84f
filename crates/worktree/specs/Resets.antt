-- Index and files that are reset to a map, as steps over a world (git-reset(1), "--hard").
use Rattle.std.specs.Prelude.{◌≡◌, ◌⊎◌, ℕ, zero, suc, Bool, ◌==◌, ◌&&◌, if◌then◌else◌, List, [], ◌∷◌, ◌++◌, length, map, slice_index, take, Result, Ok}
use Rattle.std.specs.FinMap as file
use Rattle.seq_base.specs.Words.{Path, Text}
use Rattle.seq_base.specs.World.{World}
use Rattle.seq_base.specs.declared.map.Entry.{Entry}
use Rattle.seq_outside.specs.Store.{files_below}
use Rattle.seq_outside.specs.Writes.{IsFront, written}
use Rattle.seq_outside.specs.declared.halt.Halt.{Halt}
use Rattle.seq_outside.specs.declared.halt.Halt.TheVariants.{Stops, Fault, Memory}
use Rattle.seq_outside.specs.declared.lack.Lack.{Lack}
use Rattle.seq_outside.specs.declared.lack.Lack.TheVariants.{Object, Limit, Way, Place}
use Rattle.seq_outside.specs.declared.write.Write.{Write}
use Rattle.seq_outside.specs.declared.write.Write.TheVariants.{Put, Remove}
use Rattle.index_file.specs.declared.entry.IndexEntry.{IndexEntry}
use Rattle.stage_index.specs.Changes.{is_gitlink}
use Rattle.stage_index.specs.Stages.{Entries}
use Rattle.stage_index.specs.Switching.{index_write, removals}
use Rattle.worktree.specs.Blobs.{blob_named}
use Rattle.seq_outside.specs.Halts.{◌>>=◌}

-- ---- what can be read

unfoldable pub blob_readable : World → Path × Entry → Result (Unit {0}) Lack
blob_readable w e = do
  _ ← blob_named w e.1.id
  Ok tt

-- the path's blob can be read, if it is no submodule
abbrev pub row_readable : World → Path × Entry → Result (Unit {0}) Lack
row_readable w e = if is_gitlink e.1.mode then Ok tt else blob_readable w e

-- the blobs of all paths can be read
unfoldable pub rows_readable : World → Entries → Result (Unit {0}) Lack
rows_readable w [] = Ok tt
rows_readable w (e ∷ es) = do
  _ ← row_readable w e
  rows_readable w es

-- ---- what stands in the way of a path

-- a folder of the path ends at this slash, and a file stands in its place
abbrev pub is_file_above : World → Path → ℕ → Bool
is_file_above w path n = slice_index path n == 47 && file.contains_key w (take n path)

abbrev pub file_above : World → Path → ℕ → List Path
file_above w path n = if is_file_above w path n then take n path ∷ [] else []

-- the files in the places of the folders that end among the first bytes of the path
abbrev pub files_above : World → Path → ℕ → List Path
files_above w path zero = []
files_above w path (suc n) = files_above w path n ++ file_above w path n

-- the files in the places of its folders, and those below it
abbrev pub in_way : World → Path → List Path
in_way w path = files_above w path (length path) ++ files_below w path

abbrev pub removal : Path → Write
removal path = Remove path

-- the path is given these bytes, and whatever stands in its way is removed before
abbrev pub over : World → Path → Text → List Write
over w path bytes = map removal (in_way w path) ++ Put path bytes ∷ []

-- what gives a path its blob, and nothing at a submodule's path: what stands there stays
unfoldable pub blob_over : World → Path × Entry → Result (List Write) Lack
blob_over w e = do
  bytes ← blob_named w e.1.id
  Ok (over w e.0 bytes)

abbrev pub row_writes : World → Path × Entry → Result (List Write) Lack
row_writes w e = if is_gitlink e.1.mode then Ok [] else blob_over w e

-- what gives paths their blobs, each in the world that the earlier ones leave
unfoldable pub rows_writes : World → Entries → Result (List Write) Lack
rows_writes w [] = Ok []
rows_writes w (e ∷ es) = do
  writes ← row_writes w e
  more ← rows_writes (written w writes) es
  Ok (writes ++ more)

-- what the map lacks is removed, then the index is written
abbrev pub reset_first : List IndexEntry → Entries → List Write
reset_first from to = removals from to ++ index_write to ∷ []

-- that, and then what gives paths their blobs
unfoldable pub reset_writes : World → List IndexEntry → Entries → Entries → Result (List Write) Lack
reset_writes w from to first = do
  more ← rows_writes (written w (reset_first from to)) first
  Ok (reset_first from to ++ more)

-- ---- what stands, whatever ends it

-- a front of what gives a path its blob was made
abbrev pub IsRowFront : Path × Entry → World → World → Type 0
IsRowFront e old new = (new ≡ old) ⊎ ((writes : List Write) × (row_writes old e ≡ Ok writes) × IsFront old writes new)

-- a front of what gives the first n paths their blobs was made
pub record IsRowsFront (to : Entries) (old new : World) : Type 0 where
  pub n : ℕ
  pub writes : List Write
  pub are : rows_writes old (take n to) ≡ Ok writes
  pub front : IsFront old writes new

-- a front of the removals, the index and what gives the first n paths their blobs was made
pub record IsResetFront (from : List IndexEntry) (to : Entries) (old new : World) : Type 0 where
  pub n : ℕ
  pub writes : List Write
  pub are : reset_writes old from to (take n to) ≡ Ok writes
  pub front : IsFront old writes new

-- ---- why it stops

-- a path is in the way
abbrev pub IsWay : Lack → Type 0
IsWay (Way path) = Unit {0}
IsWay (Object id) = ⊥
IsWay (Limit what number) = ⊥
IsWay (Place id) = ⊥

-- it stops for no other reason
abbrev pub OnlyWay : Halt Lack → Type 0
OnlyWay (Stops why) = IsWay why
OnlyWay Fault = Unit {0}
OnlyWay Memory = Unit {0}
