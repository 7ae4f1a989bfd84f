-- What a three-way merge makes of one path (git-read-tree(1), "3-Way Merge"; git-merge-file(1)).
use Rattle.std.specs.Prelude.{ℕ, Bool, true, false, ◌&&◌, if◌then◌else◌, List, Option, Some, None}
use Rattle.std.specs.Option.{option_map_or}
use Rattle.seq_base.specs.declared.map.Entry.{Entry}
use Rattle.seq_base.specs.declared.mode.Mode.{Mode}
use Rattle.seq_base.specs.PathMaps.{same_entry}
use Rattle.tree_merge.specs.Choices.{agreed, is_file_mode, same_id, same_mode}
use Rattle.tree_merge.specs.declared.rules.Choice.{Choice}
use Rattle.tree_merge.specs.declared.rules.Choice.TheVariants.{Take, Content, Conflict}

-- the id of two changed files, where no content has to be merged; with no base both sides have to have it
abbrev pub merged_id : Option Entry → Entry → Entry → Option (List ℕ)
merged_id None ours theirs = if same_id ours.id theirs.id then Some ours.id else None
merged_id (Some base) ours theirs = agreed same_id base.id ours.id theirs.id

-- the mode of two changed files, where the sides agree on one
abbrev pub merged_mode : Option Entry → Entry → Entry → Option Mode
merged_mode None ours theirs = if same_mode ours.mode theirs.mode then Some ours.mode else None
merged_mode (Some base) ours theirs = agreed same_mode base.mode ours.mode theirs.mode

-- ours is the mode where there is none that is clean
abbrev pub by_parts : Mode → Option (List ℕ) → Option Mode → Choice
by_parts mine (Some id) (Some mode) = Take (Some (record { mode = mode; id = id }))
by_parts mine (Some id) None = Conflict (Some (record { mode = mine; id = id }))
by_parts mine None (Some mode) = Content mode true
by_parts mine None None = Content mine false

-- two changed files: the id and the mode are merged each by itself
abbrev pub merged_files : Option Entry → Entry → Entry → Choice
merged_files base ours theirs = by_parts ours.mode (merged_id base ours theirs) (merged_mode base ours theirs)

-- a file, or nothing
abbrev pub may_be_file : Option Entry → Bool
may_be_file None = true
may_be_file (Some e) = is_file_mode e.mode

-- a path that the sides changed differently
abbrev pub changed : Option Entry → Option Entry → Option Entry → Choice
changed base None theirs = Conflict theirs
changed base (Some ours) None = Conflict (Some ours)
changed base (Some ours) (Some theirs) =
    if may_be_file base && (is_file_mode ours.mode && is_file_mode theirs.mode) then merged_files base ours theirs else Conflict (Some ours)

-- what both sides have is taken, else what one side alone changed, else files are merged
abbrev pub choice : Option Entry → Option Entry → Option Entry → Choice
choice base ours theirs = option_map_or Take (agreed same_entry base ours theirs) (changed base ours theirs)
