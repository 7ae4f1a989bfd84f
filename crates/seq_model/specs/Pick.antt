-- One clean pick (git-cherry-pick(1)), by what the store holds.
use Rattle.std.specs.Prelude.{List, [], ◌∷◌, Result, Ok, Err}
use Rattle.config_text.specs.declared.config.Setting.{Setting}
use Rattle.index_file.specs.declared.entry.IndexEntry.{IndexEntry}
use Rattle.object_text.specs.declared.commit.Commit.{Commit as CommitFields}
use Rattle.objects.specs.Named.{commit_named}
use Rattle.path_trees.specs.Named.{commit_map, map_named}
use Rattle.seq_base.specs.Words.{Id, Name, Text}
use Rattle.seq_base.specs.World.{World}
use Rattle.seq_outside.specs.Halts.{◌>>=◌, for_reason}
use Rattle.stage_index.specs.Changes.{dirty}
use Rattle.tree_merge.specs.Plans.{Entries, plan_of}
use Rattle.tree_merge.specs.Results.{conflict_in, result_of}
use Rattle.ref_text.specs.declared.head.Head.{Head}
use Rattle.seq_model.specs.Checks.{born, commit_by, is_repository}
use Rattle.seq_model.specs.Committers.{committer_in}
use Rattle.seq_model.specs.Basis.{basis_at, unmerged}
use Rattle.seq_model.specs.Refusing.{denied_file, refuse_found}
use Rattle.seq_model.specs.Unbuilt.{only_built}
use Rattle.seq_model.specs.declared.committer.Committer.{Committer}
use Rattle.seq_model.specs.declared.place.Place.{Place}
use Rattle.seq_model.specs.declared.denial.Denial.{Denial}
use Rattle.seq_model.specs.declared.denial.Denial.TheVariants.{Refused}
use Rattle.seq_model.specs.declared.refusal.Refusal.TheVariants.{NotBuilt, Unmerged, Dirty, Conflict}

-- what a merge without conflicts leaves
unfoldable pub merged : Entries → Entries → Entries → Result Entries Denial
merged base ours theirs = do
  clean ← refuse_found (conflict_in (plan_of base ours theirs)) Conflict
  Ok (result_of base ours theirs)

-- index and files are those of HEAD
unfoldable pub is_clean : World → List IndexEntry → Entries → Result (Unit {0}) Denial
is_clean w index ours = refuse_found (dirty w index ours) Dirty

-- HEAD's map, where index and files are as HEAD has them
unfoldable pub clean_map : World → Id → List IndexEntry → Result Entries Denial
clean_map w head index = do
  ours ← for_reason denied_file (commit_map w head)
  clean ← is_clean w index ours
  Ok ours

-- the map that the change from a parent to a tree makes of HEAD's
unfoldable pub merged_onto : World → Entries → Id → Id → Result Entries Denial
merged_onto w ours parent tree = do
  base ← for_reason denied_file (commit_map w parent)
  theirs ← for_reason denied_file (map_named w tree)
  merged base ours theirs

-- a pick as it is merged: the index that is found, the commit that is picked, HEAD's map, and the one that the pick makes of it
pub record Merging : Type 0 where
  pub index : List IndexEntry
  pub commit : CommitFields
  pub ours : Entries
  pub map : Entries

-- the only parent of a commit
abbrev pub only_parent : List Id → Result Id Denial
only_parent (parent ∷ []) = Ok parent
only_parent parents = Err (Refused NotBuilt)

-- a commit merged into HEAD
unfoldable pub merged_into : World → Id → List IndexEntry → CommitFields → Result Merging Denial
merged_into w head index commit = do
  parent ← only_parent commit.parents
  whole ← refuse_found (unmerged index) Unmerged
  ours ← clean_map w head index
  map ← merged_onto w ours parent commit.tree
  Ok (record { index = index; commit = commit; ours = ours; map = map })

-- the commit of an id merged into HEAD
unfoldable pub merging_of : World → Id → List IndexEntry → Id → Result Merging Denial
merging_of w head index pick = do
  commit ← for_reason denied_file (commit_named w pick)
  merged_into w head index commit

-- what a pick finds: what HEAD is, the commit that it is at, who commits, and the merge
pub record Finding : Type 0 where
  pub on : Head
  pub head : Id
  pub committer : Committer
  pub merging : Merging

-- what the pick of a commit finds on HEAD, which is at a commit
unfoldable pub found_on : List (Name × Text) → World → Head → Id → List Setting → List IndexEntry → Id → Result Finding Denial
found_on vars w on head settings index pick = do
  committer ← committer_in vars settings
  merging ← merging_of w head index pick
  Ok (record { on = on; head = head; committer = committer; merging = merging })

-- what the pick of the commit that a word names finds at a place
unfoldable pub found_at : List (Name × Text) → Text → World → Place → List Setting → List IndexEntry → Result Finding Denial
found_at vars word w place settings index = do
  pick ← commit_by w word
  head ← born place.tip
  found_on vars w place.head head settings index pick

-- the same, in a repository of which all is taken
unfoldable pub found_in : List (Name × Text) → Text → World → Result Finding Denial
found_in vars word w = do
  basis ← basis_at w
  found_at vars word w basis.place basis.settings basis.index

-- what the pick of the commit that a word names finds
unfoldable pub found : List (Name × Text) → Text → World → Result Finding Denial
found vars word w = do
  repository ← is_repository w
  built ← only_built w
  found_in vars word w
