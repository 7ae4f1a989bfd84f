-- What a clean pick leaves, in Git's words (git-cherry-pick(1)).
use Rattle.std.specs.Prelude.{◌≡◌, FitsSigned, ℤ, List, [], ◌∷◌, None, Some, Ok, true}
use Rattle.std.specs.Int.{w64}
use Rattle.std.specs.List.{AllByRecursion, list_all}
use Rattle.ident_text.specs.Idents.{is_ident_byte, is_zone}
use Rattle.index_file.specs.Entries.{IsInOrder}
use Rattle.index_file.specs.Index.{index_at, indexed}
use Rattle.index_file.specs.declared.entry.IndexEntry.{IndexEntry}
use Rattle.object_text.specs.Commits.{IsCommitValue}
use Rattle.object_text.specs.TreeMaps.{map_at, root_of}
use Rattle.object_text.specs.declared.commit.Commit.{Commit as CommitFields}
use Rattle.objects.specs.Named.{commit_named}
use Rattle.ref_store.specs.Moves.{moved_name}
use Rattle.ref_text.specs.Heads.{IsHeadValue}
use Rattle.ref_store.specs.Values.{HasValue}
use Rattle.ref_text.specs.Refs.{RefAt, head_name}
use Rattle.seq_base.specs.Ids.{IsId}
use Rattle.seq_base.specs.PathMaps.{IsPathMap}
use Rattle.seq_base.specs.Paths.{IsPath}
use Rattle.seq_base.specs.Words.{Id, Text}
use Rattle.seq_base.specs.World.{World}
use Rattle.seq_model.specs.Pick.{Finding, found}
use Rattle.seq_model.specs.Picked.{picked}
use Rattle.seq_outside.specs.declared.env.Env.{Env}
use Rattle.stage_index.specs.Changes.{changed}
use Rattle.stage_index.specs.Stages.{Entries}

-- a pick that was made: what it found, its moment in seconds, and the worlds before it and behind it
pub record Pick : Type 0 where
  pub finding : Finding
  pub secs : ℤ
  pub old : World
  pub new : World

-- the paths of an index and of a map are those of a worktree
pub record ArePaths (index : List IndexEntry) (m : Entries) : Type 0 where
  pub tracked : AllByRecursion (λ e. IsPath e.path) index
  pub merged : AllByRecursion (λ e. IsPath e.0) m

-- what is found is by its types
pub record IsSound (finding : Finding) : Type 0 where
  pub on : IsHeadValue finding.on
  pub head : IsId finding.head
  pub name : list_all is_ident_byte finding.committer.name ≡ true
  pub email : list_all is_ident_byte finding.committer.email ≡ true
  pub commit : IsCommitValue finding.merging.commit
  pub order : IsInOrder finding.merging.index
  pub map : IsPathMap finding.merging.map
  pub paths : ArePaths finding.merging.index finding.merging.map
  pub ids : AllByRecursion (λ e. IsId e.1.id) finding.merging.map

-- what was found was picked at the moment, with the new commit of this id
pub record IsMade (env : Env) (word : Text) (pick : Pick) (id : Id) : Type 0 where
  pub zone : is_zone env.zone ≡ true
  pub moment : FitsSigned w64 pick.secs
  pub sound : IsSound pick.finding
  pub commit_id : IsId id
  pub tree_id : IsId (root_of pick.finding.merging.map)
  pub finds : found env.vars word pick.old ≡ Ok pick.finding
  pub picks : picked env pick.secs word pick.old ≡ (Ok id, pick.new)

-- HEAD is at the new commit, and so is its branch, if it is on one. The commit is one on what HEAD was at, by the author and with the
-- message of the one that was picked. Its tree has the map of the merge, and so has the index; and no file differs from that.
pub record Leaves (w : World) (finding : Finding) (id : Id) : Type 0 where
  pub head : HasValue w head_name (Some id)
  pub value : RefAt w (moved_name finding.on) (Some id)
  pub commit : CommitFields
  pub reads : commit_named w id ≡ Ok commit
  pub parent : commit.parents ≡ finding.head ∷ []
  pub author : commit.author ≡ finding.merging.commit.author
  pub message : commit.message ≡ finding.merging.commit.message
  pub tree : map_at w commit.tree ≡ Ok finding.merging.map
  pub index : index_at w ≡ Ok (indexed finding.merging.map)
  pub unstaged : changed w (indexed finding.merging.map) ≡ None
