-- The plan of a three-way merge of maps from paths (git-read-tree(1), "3-Way Merge"; git-merge(1), "HOW CONFLICTS ARE
-- PRESENTED").
use Rattle.std.specs.Prelude.{◌≡◌, ℕ, ◌<◌, Bool, true, false, not, ◌&&◌, ◌||◌, if◌then◌else◌, List, [], ◌∷◌, ◌++◌, length, filter, map, Option, is_some, slice_index_or}
use Rattle.std.specs.List.{list_any}
use Rattle.std.specs.Str.{bytes_eq}
use Rattle.seq_base.specs.declared.map.Entry.{Entry}
use Rattle.seq_base.specs.World.{is_below}
use Rattle.seq_base.specs.PathMaps.{entry_at, is_less, same_entry}
use Rattle.tree_merge.specs.declared.rules.Choice.{Choice}
use Rattle.tree_merge.specs.declared.rules.Choice.TheVariants.{Take, Content, Conflict}
use Rattle.tree_merge.specs.declared.plans.Planned.{Planned}
use Rattle.tree_merge.specs.Choosing.{choice}

-- a map, as the list of path and entry in order
abbrev pub Entries : Type 0
Entries = List (List ℕ × Entry)

-- paths in order, with one more
abbrev pub with_path : List (List ℕ) → List ℕ → List (List ℕ)
with_path [] path = path ∷ []
with_path (p ∷ ps) path = if bytes_eq p path then p ∷ ps else if is_less path p then path ∷ p ∷ ps else p ∷ with_path ps path

-- the paths of entries, in order, each once
abbrev pub paths_of : Entries → List (List ℕ)
paths_of [] = []
paths_of (e ∷ es) = with_path (paths_of es) e.0

-- whether a merge leaves an entry at a path
abbrev pub is_present : Choice → Bool
is_present (Take entry) = is_some entry
is_present (Content mode clean) = true
is_present (Conflict file) = is_some file

-- a path with three entries and what to make of them, as long as nothing clashes with it
abbrev pub row_of : List ℕ → Option Entry → Option Entry → Option Entry → Planned
row_of path base ours theirs = record {
  path = path;
  base = base;
  ours = ours;
  theirs = theirs;
  choice = choice base ours theirs;
  clash = false;
  written = is_present (choice base ours theirs);
}

abbrev pub row_at : Entries → Entries → Entries → List ℕ → Planned
row_at base ours theirs path = row_of path (entry_at base path) (entry_at ours path) (entry_at theirs path)

-- the three entries are not all equal
abbrev pub is_listed : Planned → Bool
is_listed row = not (same_entry row.base row.ours && same_entry row.ours row.theirs)

-- the paths of the maps, in order
abbrev pub all_rows : Entries → Entries → Entries → List Planned
all_rows base ours theirs = map (row_at base ours theirs) (paths_of (base ++ ours ++ theirs))

-- the paths whose three entries are not all equal, in order
abbrev pub listed : Entries → Entries → Entries → List Planned
listed base ours theirs = filter is_listed (all_rows base ours theirs)

-- both paths have an entry after the merge, and the second lies below the first
abbrev pub is_under : Planned → Planned → Bool
is_under upper lower = is_present upper.choice && (is_present lower.choice && is_below upper.path lower.path)

-- a path lies below this one
abbrev pub is_upper : List Planned → Planned → Bool
is_upper rows row = list_any (λ other. is_under row other) rows

-- this path lies below one
abbrev pub is_lower : List Planned → Planned → Bool
is_lower rows row = list_any (λ other. is_under other row) rows

-- a path that lies below another, or that another lies below, clashes, and the upper one is not written
abbrev pub marked : List Planned → Planned → Planned
marked rows row = record row { clash = is_upper rows row || is_lower rows row; written = is_present row.choice && not (is_upper rows row) }

-- the plan: what is made of each path whose three entries are not all equal, in order
abbrev pub plan_of : Entries → Entries → Entries → List Planned
plan_of base ours theirs = map (marked (listed base ours theirs)) (listed base ours theirs)

-- the same of each path of the maps: one whose three entries are equal is taken as it is
abbrev pub whole_plan_of : Entries → Entries → Entries → List Planned
whole_plan_of base ours theirs = map (marked (all_rows base ours theirs)) (all_rows base ours theirs)

-- each path comes before those that follow
abbrev pub AreInOrder : List Planned → Type 0
AreInOrder rows = (j k : ℕ) (d : Planned) → j < k → k < length rows → is_less (slice_index_or rows j d).path (slice_index_or rows k d).path ≡ true
