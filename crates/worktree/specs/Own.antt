-- The paths that a switch writes.
use Rattle.std.specs.Prelude.{◌≡◌, ◌⊎◌, false, true, List, None, codes}
use Rattle.std.specs.FinMap as map
use Rattle.std.specs.List.{AllByRecursion}
use Rattle.seq_base.specs.PathMaps.{entry_at}
use Rattle.seq_base.specs.Paths.{IsPath}
use Rattle.seq_base.specs.Words.{Path}
use Rattle.seq_base.specs.World.{World, is_below}
use Rattle.seq_outside.specs.declared.write.Write.{Write}
use Rattle.seq_outside.specs.Writes.{is_written, path_of}
use Rattle.index_file.specs.declared.entry.IndexEntry.{IndexEntry}
use Rattle.stage_index.specs.Stages.{Entries}
use Rattle.stage_index.specs.Switching.{is_tracked}

-- that of the index, or one that an index may track
abbrev pub IsOwn : Path → Type 0
IsOwn path = (path ≡ codes ".git/index") ⊎ IsPath path

-- each other file is as it was
abbrev pub OthersStay : World → World → Type 0
OthersStay old new = (path : Path) → (IsOwn path → ⊥) → map.get new path ≡ map.get old path

-- a path that is not the index's, and that neither an index nor a map has
pub record IsUnrelated (from : List IndexEntry) (to : Entries) (path : Path) : Type 0 where
  pub index : path ≡ codes ".git/index" → ⊥
  pub tracked : is_tracked from path ≡ false
  pub mapped : entry_at to path ≡ None

-- what neither of them has is as it was
abbrev pub UnrelatedStay : List IndexEntry → Entries → World → World → Type 0
UnrelatedStay from to old new = (path : Path) → IsUnrelated from to path → map.get new path ≡ map.get old path

abbrev pub HasOwnPath : Write → Type 0
HasOwnPath write = IsOwn (path_of write)

abbrev pub AreOwn : List Write → Type 0
AreOwn writes = AllByRecursion HasOwnPath writes

-- a path below `.git` that is not the index's
abbrev pub IsGitPath : Path → Type 0
IsGitPath path = (is_below (codes ".git") path ≡ true) × (path ≡ codes ".git/index" → ⊥)

-- each file below `.git` but the index is as it was
abbrev pub GitStays : World → World → Type 0
GitStays old new = (path : Path) → IsGitPath path → map.get new path ≡ map.get old path

-- none of the writes is of such a file
abbrev pub AreOutside : List Write → Type 0
AreOutside writes = (path : Path) → IsGitPath path → is_written writes path ≡ false
