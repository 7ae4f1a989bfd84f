-- The content of a tree (git-mktree(1), git-ls-tree(1); Pro Git 10.2, "Tree Objects"; the order is that of git-fsck(1), "treeNotSorted").
use Rattle.std.specs.Prelude.{◌≡◌, ℕ, Bool, true, false, not, ◌&&◌, ◌==◌, nat_lt, List, [], ◌∷◌, ◌++◌, length}
use Rattle.std.specs.List.{AllByRecursion, flat_map, list_all}
use Rattle.std.specs.Str.{bytes_eq}
use Rattle.seq_base.specs.Words.{Name, Text}
use Rattle.seq_base.specs.declared.mode.Mode.{Mode}
use Rattle.seq_base.specs.declared.mode.Mode.TheVariants.{File, Exec, Link, Gitlink, Folder}
use Rattle.seq_base.specs.Modes.{mode_text}
use Rattle.seq_base.specs.Paths.{is_special}
use Rattle.seq_base.specs.PathMaps.{is_less}
use Rattle.seq_base.specs.Ids.{HasIdWidth}
use Rattle.object_text.specs.declared.tree.TreeEntry.{TreeEntry}

-- `<octal mode> SP <name> NUL <20 bytes>`
abbrev pub entry_text : TreeEntry → Text
entry_text e = mode_text e.mode ++ 32 ∷ [] ++ e.name ++ 0 ∷ [] ++ e.id

abbrev pub tree_text : List TreeEntry → Text
tree_text es = flat_map entry_text es

-- a name as it is compared: a folder's as if it ended in a slash
abbrev pub key : Mode → Name → Text
key Folder name = name ++ 47 ∷ []
key File name = name
key Exec name = name
key Link name = name
key Gitlink name = name

-- a byte other than NUL and `/`
abbrev pub is_name_byte : ℕ → Bool
is_name_byte b = not (b == 0) && not (b == 47) && nat_lt b 256

-- what may be a part of a path: some bytes but NUL and `/`, and neither `.` nor `..` nor `.git` in any case
abbrev pub is_name : Name → Bool
is_name name = not (length name == 0) && list_all is_name_byte name && not (is_special name)

-- d stands before e in a tree
pub record IsBefore (d e : TreeEntry) : Type 0 where
  pub less : is_less (key d.mode d.name) (key e.mode e.name) ≡ true
  pub other : bytes_eq d.name e.name ≡ false

-- each entry stands before those that follow, and has a name
abbrev pub IsTreeOrder : List TreeEntry → Type 0
IsTreeOrder [] = Unit {0}
IsTreeOrder (e ∷ es) = (is_name e.name ≡ true) × AllByRecursion (IsBefore e) es × IsTreeOrder es

-- an id has 20 bytes
abbrev pub HaveIds : List TreeEntry → Type 0
HaveIds = AllByRecursion (λ e. HasIdWidth e.id)

-- the bytes are the tree of these entries
pub record IsTree (es : List TreeEntry) (bytes : Text) : Type 0 where
  pub order : IsTreeOrder es
  pub ids : HaveIds es
  pub text_is : bytes ≡ tree_text es
