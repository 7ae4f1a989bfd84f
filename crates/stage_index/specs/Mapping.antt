-- The map of an index that has no unmerged path (git-write-tree(1)).
use Rattle.std.specs.Prelude.{◌≡◌, if◌then◌else◌, List, [], ◌∷◌, Option, Some, None, Result, Ok, Err}
use Rattle.seq_base.specs.PathMaps.{first_clash, put}
use Rattle.seq_base.specs.Words.{Path}
use Rattle.seq_outside.specs.Halts.{◌>>=◌}
use Rattle.index_file.specs.declared.entry.IndexEntry.{IndexEntry}
use Rattle.stage_index.specs.Stages.{Entries, is_merged, row_of}
use Rattle.stage_index.specs.declared.fault.StageFault.{StageFault}
use Rattle.stage_index.specs.declared.fault.StageFault.TheVariants.{Unmerged, Clash, Memory}

-- the entry joins the map, unless one of its paths clashes
abbrev pub joined : Option Path → Entries → IndexEntry → Result Entries StageFault
joined None m e = Ok (put m e.path (row_of e).1)
joined (Some other) m e = Err (Clash e.path)

-- the map with a further entry, which is merged
abbrev pub with_entry : Entries → IndexEntry → Result Entries StageFault
with_entry m e = if is_merged e then joined (first_clash m e.path) m e else Err (Unmerged e.path)

-- the map with further entries
unfoldable pub with_entries : Entries → List IndexEntry → Result Entries StageFault
with_entries m [] = Ok m
with_entries m (e ∷ es) = do
  more ← with_entry m e
  with_entries more es

-- the map of these entries, or the first of them that is unmerged, or whose path would be a folder of an earlier one or lie below it
abbrev pub mapped : List IndexEntry → Result Entries StageFault
mapped es = with_entries [] es

-- the map or the fault is the one that is told
abbrev pub GivesMap : {X : Type 0} → (X → Entries) → Result X StageFault → Result Entries StageFault → Type 0
GivesMap view (Ok x) means = means ≡ Ok (view x)
GivesMap view (Err (Unmerged path)) means = means ≡ Err (Unmerged path)
GivesMap view (Err (Clash path)) means = means ≡ Err (Clash path)
GivesMap view (Err Memory) means = Unit {0}

-- that the path clashes, or want of memory
abbrev pub IsClashOf : Path → StageFault → Type 0
IsClashOf path (Unmerged other) = ⊥
IsClashOf path (Clash other) = other ≡ path
IsClashOf path Memory = Unit {0}
