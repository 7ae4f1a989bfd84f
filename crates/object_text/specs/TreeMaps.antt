-- Trees of trees as maps from paths (git-ls-tree(1), -r), and the trees of a map (git-write-tree(1)).
use Rattle.std.specs.Prelude.{ℕ, zero, suc, Bool, true, false, ◌&&◌, ◌==◌, nat_le, nat_lt, if◌then◌else◌, List, [], ◌∷◌, ◌++◌, length, Option, Some, None, Result, Ok, Err}
use Rattle.std.specs.List.{list_all, list_any}
use Rattle.std.specs.Str.{bytes_eq}
use Rattle.std.specs.Str.Lossy.{utf8_valid_len}
use Rattle.seq_base.specs.Words.{Id, Name, Path, Text}
use Rattle.seq_base.specs.Paths.{parts}
use Rattle.seq_base.specs.PathMaps.{Entries}
use Rattle.seq_base.specs.World.{World}
use Rattle.seq_base.specs.declared.mode.Mode.{Mode}
use Rattle.seq_base.specs.declared.mode.Mode.TheVariants.{File, Exec, Link, Gitlink, Folder}
use Rattle.seq_base.specs.declared.map.Entry.{Entry}
use Rattle.object_text.specs.declared.object.Kind.TheVariants.{Tree}
use Rattle.object_text.specs.declared.object.Object.{Object}
use Rattle.object_text.specs.declared.tree.TreeEntry.{TreeEntry}
use Rattle.object_text.specs.Trees.{tree_text}
use Rattle.object_text.specs.Store.{Put, content_limit, object_id, put_object, tree_at}

-- why a tree has no map: a tree that cannot be read or holds a path that is none, or one that lies too deep
pub data MapFault : Type 0 where
  BadTree : Id → MapFault
  TooDeep : MapFault

infixl 10 ◌>>=◌
abbrev pub ◌>>=◌ : {A B : Type 0} → Result A MapFault → (A → Result B MapFault) → Result B MapFault
(Ok x) >>= f = f x
(Err e) >>= f = Err e

abbrev pub is_folder : Mode → Bool
is_folder Folder = true
is_folder File = false
is_folder Exec = false
is_folder Link = false
is_folder Gitlink = false

-- a path below a folder; the root has the empty one
abbrev pub below : Path → Name → Path
below [] name = name
below (b ∷ folder) name = (b ∷ folder) ++ 47 ∷ [] ++ name

-- a path whose parts are valid is one where it is text, and not too long
abbrev pub is_path_text : Text → Bool
is_path_text path = nat_le (length path) 4095 && utf8_valid_len path == length path

-- what entries have at the paths below a folder, where inside gives that of a tree
unfoldable pub entries_map : (Path → Id → Result Entries MapFault) → Path → List TreeEntry → Result Entries MapFault
entries_map inside folder [] = Ok []
entries_map inside folder (e ∷ es) = do
  first ← (if is_folder e.mode then inside (below folder e.name) e.id else Ok ((below folder e.name, record { mode = e.mode; id = e.id }) ∷ []))
  others ← entries_map inside folder es
  Ok (first ++ others)

-- what the tree of an id has, by what the world has
abbrev pub opened : (Path → Id → Result Entries MapFault) → Path → Id → Option (List TreeEntry) → Result Entries MapFault
opened inside folder id None = Err (BadTree id)
opened inside folder id (Some es) = if list_all (λ e. is_path_text (below folder e.name)) es then entries_map inside folder es else Err (BadTree id)

-- what the tree of an id has, no more than so many trees deep
unfoldable pub map_below : ℕ → World → Path → Id → Result Entries MapFault
map_below zero w folder id = Err TooDeep
map_below (suc n) w folder id = opened (map_below n w) folder id (tree_at w id)

-- the map of a tree, in the order of its paths, or the first fault, a tree before its subtrees
unfoldable pub map_at : World → Id → Result Entries MapFault
map_at w id = map_below 256 w [] id

-- ---- the trees of a map

-- the tree of these entries, and its id
abbrev pub tree_object : List TreeEntry → Object
tree_object es = record { kind = Tree; bytes = tree_text es }

abbrev pub tree_id : List TreeEntry → Id
tree_id es = object_id (tree_object es)

-- what a folder lists, in order: a file or a folder, with what that lists, before all others
pub data Listing : Type 0 where
  NoMore : Listing
  OneFile : Name → Entry → Listing → Listing
  OneFolder : Name → Listing → Listing → Listing

-- a change of what the folder of this name lists, which comes first or is new
abbrev pub in_folder : Name → (Listing → Listing) → Listing → Listing
in_folder name change NoMore = OneFolder name (change NoMore) NoMore
in_folder name change (OneFile first entry others) = OneFolder name (change NoMore) (OneFile first entry others)
in_folder name change (OneFolder first its others) =
    if bytes_eq first name then OneFolder name (change its) others else OneFolder name (change NoMore) (OneFolder first its others)

-- a file, by the parts of its path, before all that is listed
unfoldable pub with_file : List Name → Entry → Listing → Listing
with_file [] entry listing = listing
with_file (name ∷ []) entry listing = OneFile name entry listing
with_file (name ∷ next ∷ more) entry listing = in_folder name (with_file (next ∷ more) entry) listing

-- what the root lists of a map, whose paths are in order
unfoldable pub listing_of : Entries → Listing
listing_of [] = NoMore
listing_of (e ∷ es) = with_file (parts e.0) e.1 (listing_of es)

-- the entries of a folder's tree
unfoldable pub tree_entries : Listing → List TreeEntry
tree_entries NoMore = []
tree_entries (OneFile name entry others) = record { mode = entry.mode; name = name; id = entry.id } ∷ tree_entries others
tree_entries (OneFolder name its others) = record { mode = Folder; name = name; id = tree_id (tree_entries its) } ∷ tree_entries others

-- the trees of the folders that a folder lists, a folder after its subfolders
unfoldable pub folder_trees : Listing → List (List TreeEntry)
folder_trees NoMore = []
folder_trees (OneFile name entry others) = folder_trees others
folder_trees (OneFolder name its others) = folder_trees its ++ tree_entries its ∷ folder_trees others

-- one tree for each folder of a map, a folder after its subfolders, and the root last
unfoldable pub trees_of : Entries → List (List TreeEntry)
trees_of es = folder_trees (listing_of es) ++ tree_entries (listing_of es) ∷ []

-- the id of the root's tree
unfoldable pub root_of : Entries → Id
root_of es = tree_id (tree_entries (listing_of es))

-- a path has so many parts that its last tree could not be read back
unfoldable pub is_too_deep : Entries → Bool
is_too_deep es = list_any (λ e. nat_lt 256 (length (parts e.0))) es

-- ---- putting trees

-- why a tree was not put: it is so long, more than an object may be, or another text stands in the file of its id
pub data PutFault : Type 0 where
  IsLarge : ℕ → PutFault
  IsTaken : Id → PutFault

abbrev pub unless_taken : Put → Result World PutFault
unless_taken put = elim put.collision [ None ↦ Ok put.world | Some id ↦ Err (IsTaken id) ]

-- the world with a tree in its file
unfoldable pub put_tree : World → List TreeEntry → Result World PutFault
put_tree w tree =
    if nat_lt content_limit (length (tree_text tree)) then Err (IsLarge (length (tree_text tree)))
    else unless_taken (put_object w (tree_object tree))

abbrev pub and_then : Result World PutFault → (World → Result World PutFault) → Result World PutFault
and_then (Ok w) next = next w
and_then (Err fault) next = Err fault

-- the world with trees put one after another, or why the first that was not put was not
unfoldable pub put_trees : World → List (List TreeEntry) → Result World PutFault
put_trees w [] = Ok w
put_trees w (tree ∷ trees) = and_then (put_tree w tree) (λ next. put_trees next trees)
