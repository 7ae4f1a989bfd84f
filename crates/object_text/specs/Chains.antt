-- The map of a tree without a word on reading it: the paths to which chains of trees lead (git-ls-tree(1), -r).
use Rattle.std.specs.Prelude.{◌≡◌, false, List, [], ◌∷◌, Contains}
use Rattle.seq_base.specs.Words.{Id, Name, Path}
use Rattle.seq_base.specs.World.{World}
use Rattle.seq_base.specs.declared.mode.Mode.TheVariants.{Folder}
use Rattle.seq_base.specs.declared.map.Entry.{Entry}
use Rattle.object_text.specs.declared.tree.TreeEntry.{TreeEntry}
use Rattle.object_text.specs.Kept.{KeepsTree}
use Rattle.object_text.specs.TreeMaps.{below, is_folder}

-- the path of these names, one below the other
abbrev pub path_below : Path → List Name → Path
path_below folder [] = folder
path_below folder (name ∷ names) = path_below (below folder name) names

-- from the tree of an id, names lead to this entry: the last names it, and is no folder, those before it name folders
abbrev pub Leads : World → Id → List Name → Entry → Type 0
Leads w id [] entry = ⊥
Leads w id (name ∷ []) entry =
    (es : List TreeEntry) × KeepsTree w id es × Contains es (record { mode = entry.mode; name = name; id = entry.id }) × (is_folder entry.mode ≡ false)
Leads w id (name ∷ next ∷ names) entry =
    (es : List TreeEntry) × (folder : Id) × KeepsTree w id es × Contains es (record { mode = Folder; name = name; id = folder })
    × Leads w folder (next ∷ names) entry

-- a chain of trees leads to the entry at this path
abbrev pub LeadsTo : World → Id → Path → Entry → Type 0
LeadsTo w id path entry = (names : List Name) × Leads w id names entry × (path ≡ path_below [] names)
