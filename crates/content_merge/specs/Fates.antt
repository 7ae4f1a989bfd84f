-- What becomes of a path of a merge once the merge drivers have ended (gitattributes(5), "Defining a custom merge driver";
-- git-read-tree(1), "3-Way Merge").
use Rattle.std.specs.Prelude.{Bool, true, false, ◌&&◌, not, if◌then◌else◌, List, [], ◌∷◌, drop, Option, Some, None}
use Rattle.std.specs.Option.{option_map}
use Rattle.driver_pool.specs.declared.end.DriverEnd.{DriverEnd}
use Rattle.driver_pool.specs.declared.end.DriverEnd.TheVariants as ended
use Rattle.seq_base.specs.declared.map.Entry.{Entry}
use Rattle.seq_base.specs.declared.mode.Mode.{Mode}
use Rattle.stage_index.specs.declared.conflict.ConflictFile.{ConflictFile}
use Rattle.stage_index.specs.declared.conflict.ConflictFile.TheVariants.{Blob, Bytes}
use Rattle.tree_merge.specs.declared.plans.Planned.{Planned}
use Rattle.tree_merge.specs.declared.rules.Choice.{Choice}
use Rattle.tree_merge.specs.declared.rules.Choice.TheVariants as chosen
use Rattle.content_merge.specs.declared.fates.Fate.{Fate}
use Rattle.content_merge.specs.declared.fates.Fate.TheVariants.{Take, Make, Conflict, Broken}
use Rattle.content_merge.specs.declared.fates.Settled.{Settled}

-- a content merge is wanted
abbrev pub is_content : Choice → Bool
is_content (chosen.Take entry) = false
is_content (chosen.Content mode clean) = true
is_content (chosen.Conflict file) = false

-- a driver is run for a path, if it has one; none is where paths clash
abbrev pub wants_end : Planned → Bool
wants_end row = is_content row.choice && not row.clash

-- an entry's blob under a mode
abbrev pub blob_under : Mode → Entry → ConflictFile
blob_under mode entry = Blob (record { mode = mode; id = entry.id })

-- A content merge takes the merged text where its mode is clean too. Without a driver it shows ours, under the merged mode.
abbrev pub content_fate : Option Entry → Mode → Bool → Option DriverEnd → Fate
content_fate ours mode clean None = Conflict (option_map (blob_under mode) ours)
content_fate ours mode true (Some (ended.Clean bytes)) = Make mode bytes
content_fate ours mode false (Some (ended.Clean bytes)) = Conflict (Some (Bytes bytes))
content_fate ours mode clean (Some (ended.Conflict bytes)) = Conflict (Some (Bytes bytes))
content_fate ours mode clean (Some (ended.Broken exit)) = Broken exit

-- what becomes of a path that does not clash
abbrev pub apart_fate : Choice → Option Entry → Option DriverEnd → Fate
apart_fate (chosen.Take entry) ours end = Take entry
apart_fate (chosen.Content mode clean) ours end = content_fate ours mode clean end
apart_fate (chosen.Conflict file) ours end = Conflict (option_map Blob file)

-- what is written for the lower path of a clash
abbrev pub lower_file : Choice → Option Entry → Option ConflictFile
lower_file (chosen.Take entry) ours = option_map Blob entry
lower_file (chosen.Content mode clean) ours = option_map Blob ours
lower_file (chosen.Conflict file) ours = option_map Blob file

-- A path that clashes conflicts, whatever its choice.
abbrev pub fate_of : Planned → Option DriverEnd → Fate
fate_of row end =
    if row.clash then Conflict (if row.written then lower_file row.choice row.ours else None)
    else apart_fate row.choice row.ours end

-- a path of a plan with what becomes of it
abbrev pub settled : Planned → Option DriverEnd → Settled
settled row end = record { path = row.path; base = row.base; ours = row.ours; theirs = row.theirs; fate = fate_of row end }

abbrev pub end_in_front : List (Option DriverEnd) → Option DriverEnd
end_in_front [] = None
end_in_front (end ∷ ends) = end

-- those of a plan, with the end of each path's driver, where it has one
abbrev pub all_settled : List Planned → List (Option DriverEnd) → List Settled
all_settled [] ends = []
all_settled (row ∷ rows) ends = settled row (end_in_front ends) ∷ all_settled rows (drop 1 ends)

-- the end of each path's driver, where it has one, by the templates of drivers and the ends of those that were run
abbrev pub ends_by_path : {Driver End : Type 0} → List (Option Driver) → List End → List (Option End)
ends_by_path [] ends = []
ends_by_path (None ∷ drivers) ends = None ∷ ends_by_path drivers ends
ends_by_path (Some template ∷ drivers) [] = None ∷ ends_by_path drivers []
ends_by_path (Some template ∷ drivers) (end ∷ ends) = Some end ∷ ends_by_path drivers ends

-- the first path has a driver
abbrev pub is_driven : {Driver : Type 0} → List (Option Driver) → Bool
is_driven [] = false
is_driven (None ∷ drivers) = false
is_driven (Some template ∷ drivers) = true

abbrev pub first_of : {X : Type 0} → List X → Option X
first_of [] = None
first_of (x ∷ xs) = Some x

-- the end of the first path's driver, and the ends of the others
abbrev pub first_end : {Driver End : Type 0} → List (Option Driver) → List End → Option End
first_end drivers ends = if is_driven drivers then first_of ends else None

abbrev pub later_ends : {Driver End : Type 0} → List (Option Driver) → List End → List End
later_ends drivers ends = if is_driven drivers then drop 1 ends else ends
