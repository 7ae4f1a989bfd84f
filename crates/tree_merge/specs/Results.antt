-- What a merge without conflicts leaves (git-merge(1), "TRUE MERGE").
use Rattle.std.specs.Prelude.{◌≡◌, ℕ, Bool, true, false, not, ◌||◌, List, ◌++◌, Option, None}
use Rattle.std.specs.Option.{option_map}
use Rattle.std.specs.List.{AllByRecursion, filter_map, find}
use Rattle.seq_base.specs.declared.map.Entry.{Entry}
use Rattle.seq_base.specs.PathMaps.{entry_at}
use Rattle.tree_merge.specs.declared.rules.Choice.{Choice}
use Rattle.tree_merge.specs.declared.rules.Choice.TheVariants.{Take, Content, Conflict}
use Rattle.tree_merge.specs.declared.plans.Planned.{Planned}
use Rattle.tree_merge.specs.Choosing.{choice}
use Rattle.tree_merge.specs.Plans.{Entries, paths_of}

-- the entry that a choice takes
abbrev pub taken : Choice → Option Entry
taken (Take entry) = entry
taken (Content mode clean) = None
taken (Conflict file) = None

-- what is taken at a path
abbrev pub taken_at : Entries → Entries → Entries → List ℕ → Option Entry
taken_at base ours theirs path = taken (choice (entry_at base path) (entry_at ours path) (entry_at theirs path))

-- the paths at which an entry is taken, in order, with what is taken
abbrev pub result_of : Entries → Entries → Entries → Entries
result_of base ours theirs =
    filter_map (λ path. option_map (λ entry. (path, entry)) (taken_at base ours theirs path)) (paths_of (base ++ ours ++ theirs))

-- an entry, or none, is taken
abbrev pub is_taken : Choice → Bool
is_taken (Take entry) = true
is_taken (Content mode clean) = false
is_taken (Conflict file) = false

-- the path clashes, or nothing is taken at it
abbrev pub does_conflict : Planned → Bool
does_conflict row = row.clash || not (is_taken row.choice)

-- the first path of a plan that conflicts
abbrev pub conflict_in : List Planned → Option (List ℕ)
conflict_in rows = option_map (λ row. row.path) (find does_conflict rows)

-- no path of a plan clashes
abbrev pub HasNoClash : List Planned → Type 0
HasNoClash = AllByRecursion (λ row. row.clash ≡ false)
