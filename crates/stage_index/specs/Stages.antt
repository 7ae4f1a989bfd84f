-- The merged and the unmerged paths of an index (gitformat-index(5), "Index entry"; git-ls-files(1), "--stage").
use Rattle.std.specs.Prelude.{ℕ, Bool, ◌==◌, if◌then◌else◌, List, filter, map, Option, Some, None}
use Rattle.seq_base.specs.declared.map.Entry.{Entry}
use Rattle.index_file.specs.declared.entry.IndexEntry.{IndexEntry}

-- a map from paths, as the list of path and entry in order
abbrev pub Entries : Type 0
Entries = List (List ℕ × Entry)

abbrev pub is_merged : IndexEntry → Bool
is_merged e = e.stage == 0

-- a path with its mode and id
abbrev pub row_of : IndexEntry → List ℕ × Entry
row_of e = (e.path, record { mode = e.mode; id = e.id })

-- the map of an index: its entries at stage 0
abbrev pub map_of : List IndexEntry → Entries
map_of es = map row_of (filter is_merged es)

-- the mode and id of an entry that is there and merged
abbrev pub merged_entry : Option IndexEntry → Option Entry
merged_entry None = None
merged_entry (Some e) = if is_merged e then Some (record { mode = e.mode; id = e.id }) else None
