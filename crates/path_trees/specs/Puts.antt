-- What writing the trees of a map does (git-write-tree(1)).
use Rattle.std.specs.Prelude.{◌≡◌, ◌==◌, ℕ, ◌≤◌, Bool, true, List, [], ◌∷◌, None, drop, length, map, not, Result, Ok, Err}
use Rattle.std.specs.List.{AllByRecursion, list_all, position_or_len, starts_with}
use Rattle.seq_base.specs.Paths.{parts}
use Rattle.seq_base.specs.PathMaps.{IsPathMap, Entries}
use Rattle.seq_base.specs.Words.{Id, Path}
use Rattle.seq_base.specs.World.{World}
use Rattle.seq_outside.specs.Halts.{stop_if}
use Rattle.seq_outside.specs.Turns.{◌>>=◌, Turn, gives, looked}
use Rattle.seq_outside.specs.declared.lack.Lack.{Lack}
use Rattle.seq_outside.specs.declared.lack.Lack.TheVariants.{Limit, Place, Way}
use Rattle.seq_outside.specs.declared.limit.LimitWhat.TheVariants.{ObjectBytes, TreeDepth}
use Rattle.object_text.specs.declared.object.Object.{Object}
use Rattle.object_text.specs.declared.tree.TreeEntry.{TreeEntry}
use Rattle.object_text.specs.Store.{put_all}
use Rattle.object_text.specs.TreeMaps.{is_too_deep, root_of, tree_object, trees_of}
use Rattle.object_text.specs.Trees.{is_name}
use Rattle.objects.specs.Puts.{object_put}
use Rattle.path_trees.specs.declared.fault.TreeFault.{TreeFault}
use Rattle.path_trees.specs.declared.fault.TreeFault.TheVariants.{BadObject, TooLarge, Depth, Blocked, Fault, Memory}

-- ---- as steps that may stop

-- trees that are put, one after another
unfoldable pub each_put : List (List TreeEntry) → Turn Lack (Unit {0})
each_put [] = gives tt
each_put (tree ∷ trees) = do
  id ← object_put (tree_object tree)
  each_put trees

-- the trees of a folder's rows, a folder after its subfolders, and the id of the last
unfoldable pub folder_put : Entries → Turn Lack Id
folder_put rows = do
  put ← each_put (trees_of rows)
  gives (root_of rows)

-- the trees of a map, of which none may lie too deep to be read back, and the root's id
unfoldable pub trees_put : Entries → Turn Lack Id
trees_put rows = do
  shallow ← looked (stop_if (is_too_deep rows) (Limit TreeDepth 257))
  folder_put rows

-- ---- what is answered

-- The id that is meant, or why a tree was not put, and the world that is left. Of a fault of the store and of want of memory nothing is said.
abbrev pub HasPut : Result Id TreeFault → Result Id Lack × World → World → Type 0
HasPut (Ok id) means now = means ≡ (Ok id, now)
HasPut (Err (BadObject id)) means now = means ≡ (Err (Place id), now)
HasPut (Err (TooLarge length)) means now = means ≡ (Err (Limit ObjectBytes length), now)
HasPut (Err Depth) means now = means ≡ (Err (Limit TreeDepth 257), now)
HasPut (Err (Blocked path)) means now = means ≡ (Err (Way path), now)
HasPut (Err Fault) means now = Unit {0}
HasPut (Err Memory) means now = Unit {0}

-- the objects were put, one after another, and none met another text
abbrev pub AllPut : World → List Object → World → Type 0
AllPut old objects new = put_all old objects ≡ record { world = new; collision = None }

-- ---- the rows of a folder

-- the rows of a folder by what stands in their paths behind its own, which has so many bytes with its slash
abbrev pub cut : ℕ → Entries → Entries
cut skip rows = map (λ e. (drop skip e.0, e.1)) rows

-- what stands in the paths behind so many bytes is a map of paths
pub record GoesOnBehind (skip : ℕ) (rows : Entries) : Type 0 where
  pub long : AllByRecursion (λ e. skip ≤ length e.0) rows
  pub short : AllByRecursion (λ e. length e.0 ≤ 4095) rows
  pub names : AllByRecursion (λ e. list_all is_name (parts e.0) ≡ true) (cut skip rows)
  pub is_map : IsPathMap (cut skip rows)

-- a row stands in a folder, given with its slash
abbrev pub is_inside : Path → Path → Bool
is_inside folder path = starts_with (λ x y. x == y) path folder

-- how many of the first rows stand in a folder
abbrev pub count_inside : Path → Entries → ℕ
count_inside folder rows = position_or_len (λ e. not (is_inside folder e.0)) rows
