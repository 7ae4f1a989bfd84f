-- What a three-way merge of maps comes to with the ends of its drivers (git-ls-files(1), "--stage"; git-merge(1), "TRUE MERGE").
use Rattle.std.specs.Prelude.{◌<◌, ◌^◌, Bool, true, false, if◌then◌else◌, List, [], ◌∷◌, ◌++◌, length, Option, Some, None, is_none}
use Rattle.std.specs.Option.{option_map, option_map_or}
use Rattle.std.specs.List.{AllByRecursion, filter_map, flat_map, list_any}
use Rattle.config_text.specs.declared.config.Setting.{Setting}
use Rattle.driver_pool.specs.Drives.{Ends, drivers_end}
use Rattle.driver_pool.specs.declared.end.DriverEnd.{DriverEnd}
use Rattle.driver_pool.specs.declared.end.DriverEnd.TheVariants as ended
use Rattle.index_file.specs.Entries.{IsInOrder, IsIndex, IsStaged}
use Rattle.index_file.specs.declared.entry.IndexEntry.{IndexEntry}
use Rattle.seq_base.specs.PathMaps.{Entries, IsPathMap}
use Rattle.seq_base.specs.Words.{Path, Text}
use Rattle.seq_base.specs.World.{World}
use Rattle.seq_base.specs.declared.map.Entry.{Entry}
use Rattle.seq_outside.specs.Doing.{◌>>=◌, Does, Spot, gives, looks}
use Rattle.seq_outside.specs.declared.child.Exit.{Exit}
use Rattle.seq_outside.specs.declared.child.Exit.TheVariants.{Killed}
use Rattle.seq_outside.specs.declared.lack.Lack.{Lack}
use Rattle.stage_index.specs.Changes.{blob_id}
use Rattle.stage_index.specs.Staged.{at_stage}
use Rattle.stage_index.specs.declared.conflict.ConflictFile.{ConflictFile}
use Rattle.tree_merge.specs.Plans.{whole_plan_of}
use Rattle.tree_merge.specs.declared.plans.Planned.{Planned}
use Rattle.content_merge.specs.Fates.{all_settled, ends_by_path}
use Rattle.content_merge.specs.Jobs.{with_drivers, with_jobs}
use Rattle.content_merge.specs.declared.fates.Fate.{Fate}
use Rattle.content_merge.specs.declared.fates.Fate.TheVariants as fate
use Rattle.content_merge.specs.declared.fates.Settled.{Settled}
use Rattle.content_merge.specs.declared.merged.Merged.{Merged}
use Rattle.content_merge.specs.declared.merged.Merged.TheVariants.{Clean, Conflict, Broken}

-- ---- a clean map

-- the entry that a path has
abbrev pub entry_of : Fate → Option Entry
entry_of (fate.Take entry) = entry
entry_of (fate.Make mode bytes) = Some (record { mode = mode; id = blob_id bytes })
entry_of (fate.Conflict file) = None
entry_of (fate.Broken exit) = None

abbrev pub map_row : Settled → Option (Path × Entry)
map_row row = option_map (λ e. (row.path, e)) (entry_of row.fate)

-- the text of a new blob
abbrev pub new_text : Fate → Option Text
new_text (fate.Take entry) = None
new_text (fate.Make mode bytes) = Some bytes
new_text (fate.Conflict file) = None
new_text (fate.Broken exit) = None

abbrev pub row_text : Settled → Option Text
row_text row = new_text row.fate

-- the paths with their entries, and the texts that have to be put as blobs
unfoldable pub clean_of : List Settled → Merged
clean_of rows = Clean (filter_map map_row rows) (filter_map row_text rows)

-- ---- a conflict

abbrev pub is_conflict : Fate → Bool
is_conflict (fate.Take entry) = false
is_conflict (fate.Make mode bytes) = false
is_conflict (fate.Conflict file) = true
is_conflict (fate.Broken exit) = false

-- what the index has of a path: a merged entry at stage 0; of a conflict the entries of base, ours and theirs at stages 1 to 3
abbrev pub staged_row : Settled → List IndexEntry
staged_row row =
    if is_conflict row.fate then at_stage row.path 1 row.base ++ (at_stage row.path 2 row.ours ++ at_stage row.path 3 row.theirs)
    else at_stage row.path 0 (entry_of row.fate)

abbrev pub left_file : Fate → Option ConflictFile
left_file (fate.Take entry) = None
left_file (fate.Make mode bytes) = None
left_file (fate.Conflict file) = file
left_file (fate.Broken exit) = None

abbrev pub file_row : Settled → Option (Path × ConflictFile)
file_row row = option_map (λ file. (row.path, file)) (left_file row.fate)

-- the index, the files of the paths that conflict, and the texts that have to be put as blobs
unfoldable pub conflict_of : List Settled → Merged
conflict_of rows = Conflict (flat_map staged_row rows) (filter_map file_row rows) (filter_map row_text rows)

-- ---- all of it

abbrev pub exit_of : Fate → Option Exit
exit_of (fate.Take entry) = None
exit_of (fate.Make mode bytes) = None
exit_of (fate.Conflict file) = None
exit_of (fate.Broken exit) = Some exit

-- the first path whose driver broke
abbrev pub first_broken : List Settled → Option (Path × Exit)
first_broken [] = None
first_broken (row ∷ rows) = option_map_or (λ exit. Some (row.path, exit)) (exit_of row.fate) (first_broken rows)

abbrev pub conflicts : Settled → Bool
conflicts row = is_conflict row.fate

abbrev pub unbroken : List Settled → Merged
unbroken rows = if list_any conflicts rows then conflict_of rows else clean_of rows

-- `unrun` tells that a driver could not be run
abbrev pub merged_of : Bool → List Settled → Merged
merged_of unrun rows = option_map_or (λ at. Broken at.0 at.1 unrun) (first_broken rows) (unbroken rows)

-- The three-way merge of maps, with the end of each path's driver, where it has one. A path whose entries are equal stays as it is.
abbrev pub merge_of : Entries → Entries → Entries → List (Option DriverEnd) → Merged
merge_of base ours theirs ends = merged_of false (all_settled (whole_plan_of base ours theirs) ends)

-- ---- the merge of a line

-- a merge has no place of its own beside the world
abbrev pub at_world : World → Spot (Unit {0})
at_world w = record { world = w; place = tt }

-- where a driver could not be run, the first counts as killed
abbrev pub told_ends : Ends → List DriverEnd
told_ends (Some ends) = ends
told_ends None = ended.Broken Killed ∷ []

abbrev pub merged_with : List Planned → List (Option Text) → Ends → Merged
merged_with rows drivers ends = merged_of (is_none ends) (all_settled rows (ends_by_path drivers (told_ends ends)))

-- the jobs are read, the drivers run, and the merge has their ends
unfoldable pub merge_with : {P : Type 0} → List Planned → List (Option Text) → Does P Lack Merged
merge_with rows drivers = do
  jobs ← looks (λ w. with_jobs w [] rows drivers)
  ends ← drivers_end jobs
  gives (merged_with rows drivers ends)

-- The merge of three maps, of which ours is HEAD's. The drivers of the paths whose contents are to be merged are found by the rule files
-- of HEAD's map, in path order.
unfoldable pub merge_does : {P : Type 0} → List Setting → Entries → Entries → Entries → Does P Lack Merged
merge_does settings base ours theirs = do
  drivers ← looks (λ w. with_drivers w settings ours [] (whole_plan_of base ours theirs))
  merge_with (whole_plan_of base ours theirs) drivers

-- ---- what holds of plans whatever ends the drivers give

-- what is taken is a map, and the entries of the index are in order, of the four stages, and no folders
pub record IsSound (rows : List Planned) : Type 0 where
  pub map : (ends : List (Option DriverEnd)) → IsPathMap (filter_map map_row (all_settled rows ends))
  pub in_order : (ends : List (Option DriverEnd)) → IsInOrder (flat_map staged_row (all_settled rows ends))
  pub staged : (ends : List (Option DriverEnd)) → AllByRecursion IsStaged (flat_map staged_row (all_settled rows ends))

-- the entries that a conflict leaves are an index, unless there are too many
abbrev pub HoldsIndex : Merged → Type 0
HoldsIndex (Clean map texts) = Unit {0}
HoldsIndex (Conflict index files texts) = length index < 2 ^ 32 → IsIndex index
HoldsIndex (Broken path exit failed) = Unit {0}
