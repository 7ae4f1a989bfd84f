-- Maps and indexes that are gone through, from their first paths on.
use Rattle.std.specs.Prelude.{ℕ, Bool, ◌||◌, if◌then◌else◌, List, [], ◌∷◌, ◌++◌, Option, Some, None}
use Rattle.std.specs.List.{list_any}
use Rattle.std.specs.Str.{bytes_eq}
use Rattle.seq_base.specs.Words.{Path}
use Rattle.index_file.specs.declared.entry.IndexEntry.{IndexEntry}
use Rattle.stage_index.specs.Stages.{is_merged}
use Rattle.seq_base.specs.declared.map.Entry.{Entry}
use Rattle.seq_base.specs.PathMaps.{is_less, same_entry}

-- where two rows differ, the lesser of their paths
abbrev pub lesser_difference : List ℕ × Entry → List ℕ × Entry → Option (List ℕ)
lesser_difference a b =
    if bytes_eq a.0 b.0 then (if same_entry (Some a.1) (Some b.1) then None else Some a.0)
    else if is_less b.0 a.0 then Some b.0 else Some a.0

abbrev pub is_listed : List Path → Path → Bool
is_listed listed path = list_any (λ other. bytes_eq other path) listed

-- an entry's path is listed too, if it is unmerged and not listed yet
abbrev pub listed_too : List Path → IndexEntry → List Path
listed_too listed e = if is_merged e || is_listed listed e.path then listed else listed ++ e.path ∷ []
