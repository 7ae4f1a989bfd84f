-- What the entries of a tree have at their paths.
use Rattle.std.specs.Prelude.{◌≡◌, ◌⊎◌, true, false, Bool, List, [], ◌++◌, map, reverse, Result, Ok, Err}
use Rattle.std.specs.Global.{Vec}
use Rattle.std.specs.List.{AllByRecursion, list_all}
use Rattle.seq_base.specs.Words.{Id, Path}
use Rattle.seq_base.specs.Paths.{IsPath}
use Rattle.seq_base.specs.PathMaps.{Entries, IsPathMap}
use Rattle.seq_base.specs.declared.map.Entry.{Entry}
use Rattle.object_text.specs.declared.tree.TreeEntry.{TreeEntry}
use Rattle.object_text.specs.TreeMaps.{MapFault, below, is_path_text}
use Rattle.path_trees.specs.declared.fault.TreeFault.{TreeFault}
use Rattle.path_trees.specs.declared.fault.TreeFault.TheVariants.{BadObject, TooLarge, Depth, Blocked, Fault, Memory}

-- a folder: the root, which has the empty path, or a path
abbrev pub IsFolder : Path → Type 0
IsFolder folder = (folder ≡ []) ⊎ IsPath folder

-- an entry at its path
abbrev pub row_at : Path → TreeEntry → Path × Entry
row_at folder e = (below folder e.name, record { mode = e.mode; id = e.id })

abbrev pub has_path : Path → TreeEntry → Bool
has_path folder e = is_path_text (below folder e.name)

-- all rows of a tree, the last first, or that one of its paths is none
abbrev pub GivesRows : Path → Id → List TreeEntry → Result (Vec (Path × Entry)) TreeFault → Type 0
GivesRows folder id es (Ok rows) = (rows.items ≡ reverse (map (row_at folder) es)) × (list_all (has_path folder) es ≡ true)
GivesRows folder id es (Err (BadObject bad)) = (bad ≡ id) × (list_all (has_path folder) es ≡ false)
GivesRows folder id es (Err (TooLarge count)) = ⊥
GivesRows folder id es (Err Depth) = ⊥
GivesRows folder id es (Err (Blocked path)) = ⊥
GivesRows folder id es (Err Fault) = ⊥
GivesRows folder id es (Err Memory) = Unit {0}

-- a path that begins with the folder's, and a slash
abbrev pub IsInside : Path → Path → Type 0
IsInside folder path = (rest : Path) × (path ≡ below folder rest)

-- rows that are a map and stand below the folder were added, and where the store tells what it holds they are what the definition gives
pub record HasAdded (told : Type 0) (folder : Path) (old new : Entries) (means : Result Entries MapFault) : Type 0 where
  pub rows : Entries
  pub added : new ≡ old ++ rows
  pub is_map : IsPathMap rows
  pub inside : AllByRecursion (λ r. IsInside folder r.0) rows
  pub read : told → means ≡ Ok rows
