-- What a pick finds, and what it may do (git-cherry-pick(1)).
use Rattle.std.specs.Prelude.{ℕ, not, nat_lt, List, [], ◌∷◌, length, Option, Some, None, Result, Ok, Err}
use Rattle.std.specs.Str.{bytes_eq}
use Rattle.index_file.specs.declared.entry.IndexEntry.{IndexEntry}
use Rattle.object_text.specs.declared.commit.Commit.{Commit as CommitFields}
use Rattle.objects.specs.Named.{commit_named}
use Rattle.path_trees.specs.Named.{commit_map, map_named}
use Rattle.seq_base.specs.PathMaps.{Entries}
use Rattle.seq_base.specs.Words.{Id, Text}
use Rattle.seq_base.specs.World.{World}
use Rattle.seq_model.specs.Basis.{index_limit}
use Rattle.seq_model.specs.declared.reason.Reason.{Reason}
use Rattle.seq_model.specs.declared.reason.Reason.TheVariants as reason
use Rattle.rev_names.specs.Revs.{rev_at}
use Rattle.seq_outside.specs.Halts.{◌>>=◌, for_reason, stop_if}
use Rattle.seq_outside.specs.declared.lack.Lack.{Lack}
use Rattle.seq_outside.specs.declared.lack.Lack.TheVariants.{Limit}
use Rattle.seq_outside.specs.declared.limit.LimitWhat.TheVariants.{IndexEntries}
use Rattle.stage_index.specs.Conflicts.{Files}
use Rattle.worktree.specs.Conflicts.{unbarred}
use Rattle.worktree.specs.Switches.{unobstructed}
use Rattle.line_steps.specs.Heads.{head_found, index_found}
use Rattle.line_steps.specs.Layers.{Sides}
use Rattle.line_steps.specs.Places.{Stop, blocked, blocked_at, lacked_at, reason_of}

-- the commit that is picked, and the parent that its changes are taken against: a first commit has none
pub record Picked : Type 0 where
  pub id : Id
  pub commit : CommitFields
  pub parent : Option Id

-- the index, and HEAD's commit: its parents, its tree and the map of that
pub record Found : Type 0 where
  pub index : List IndexEntry
  pub parents : List Id
  pub tree : Id
  pub ours : Entries

-- a merge is none to pick
abbrev pub only_parent : Text → Id → List Id → Result (Option Id) Stop
only_parent rev id [] = Ok None
only_parent rev id (parent ∷ []) = Ok (Some parent)
only_parent rev id (parent ∷ other ∷ parents) = Err (blocked_at id (reason.BadName rev))

abbrev pub bad_name : {E : Type 0} → Text → E → Stop
bad_name rev fault = blocked (reason.BadName rev)

-- the commit of an id, which a line names so
unfoldable pub picked_as : Text → World → Id → Result Picked Stop
picked_as rev w id = do
  commit ← for_reason (lacked_at id) (commit_named w id)
  parent ← only_parent rev id commit.parents
  Ok (record { id = id; commit = commit; parent = parent })

-- the commit that a line names; a name of none is bad, whatever is at fault
unfoldable pub picked_at : Text → World → Result Picked Stop
picked_at rev w = do
  id ← for_reason (bad_name rev) (rev_at w rev)
  picked_as rev w id

-- an index has no more entries than it may have
abbrev pub may_have : ℕ → Result (Unit {0}) Lack
may_have entries = stop_if (nat_lt index_limit entries) (Limit IndexEntries entries)

-- the map of a commit, which an index can hold
unfoldable pub map_held : Id → World → Result Entries Lack
map_held id w = do
  m ← commit_map w id
  _ ← may_have (length m)
  Ok m

-- the map of HEAD's tree, which an index can hold
unfoldable pub ours_at : Id → World → Result Entries Lack
ours_at tree w = do
  ours ← map_named w tree
  _ ← may_have (length ours)
  Ok ours

-- the map of HEAD's commit, and the index
unfoldable pub found_on : CommitFields → World → Result Found Reason
found_on commit w = do
  ours ← for_reason reason_of (ours_at commit.tree w)
  index ← index_found w
  Ok (record { index = index; parents = commit.parents; tree = commit.tree; ours = ours })

-- HEAD's map, and the index
unfoldable pub found_at : Id → World → Result Found Reason
found_at head w = do
  commit ← for_reason reason_of (commit_named w head)
  found_on commit w

-- a first commit is taken against nothing
abbrev pub base_at : World → Option Id → Result Entries Lack
base_at w None = Ok []
base_at w (Some parent) = commit_map w parent

-- the commit's own map
unfoldable pub theirs_at : Picked → World → Result Entries Stop
theirs_at pick w = for_reason (lacked_at pick.id) (map_named w pick.commit.tree)

-- the base's map, then theirs
unfoldable pub sides_at : Entries → Picked → World → Result Sides Stop
sides_at ours pick w = do
  base ← for_reason (lacked_at pick.id) (base_at w pick.parent)
  theirs ← theirs_at pick w
  Ok (record { base = base; ours = ours; theirs = theirs })

-- a map that an index can hold, and in whose way no untracked file is
unfoldable pub may_stand : List IndexEntry → Entries → World → Result (Unit {0}) Lack
may_stand index m w = do
  _ ← may_have (length m)
  unobstructed w index m

-- the same of a conflict
unfoldable pub may_conflict : List IndexEntry → List IndexEntry → Files → World → Result (Unit {0}) Lack
may_conflict from index files w = do
  _ ← may_have (length index)
  unbarred w from index files

-- HEAD is still at that commit
unfoldable pub still_at : Id → World → Result (Unit {0}) Reason
still_at head w = do
  found ← head_found w
  stop_if (not (bytes_eq found head)) (reason.HeadMoved (Some found))
