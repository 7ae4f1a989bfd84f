-- What one clean pick makes (git-cherry-pick(1)), by what the store holds and the moment of its commit.
use Rattle.std.specs.Prelude.{ℤ, List}
use Rattle.object_text.specs.declared.commit.Commit.{Commit as CommitFields}
use Rattle.ref_text.specs.declared.head.Head.{Head}
use Rattle.seq_base.specs.Words.{Id, Name, Text}
use Rattle.seq_outside.specs.Turns.{Turn, ◌>>=◌, gives, looks}
use Rattle.seq_outside.specs.declared.env.Env.{Env}
use Rattle.seq_model.specs.Making.{committed, switched_to}
use Rattle.seq_model.specs.Pick.{Finding, Merging, found}
use Rattle.seq_model.specs.declared.committer.Committer.{Committer}
use Rattle.seq_model.specs.declared.denial.Denial.{Denial}

-- a pick whose commit is still to be made: on which HEAD and commit, by whom, of which commit, and with which tree
pub record Prepared : Type 0 where
  pub on : Head
  pub head : Id
  pub committer : Committer
  pub commit : CommitFields
  pub tree : Id

-- trees, index, files and message of a merge; answers the root's id
unfoldable pub merge_made : Merging → Turn Denial Id
merge_made merging = switched_to merging.index merging.ours merging.map merging.commit.message

-- what is made of what a pick finds
unfoldable pub prepared_from : Finding → Turn Denial Prepared
prepared_from finding = do
  tree ← merge_made finding.merging
  gives (record { on = finding.on; head = finding.head; committer = finding.committer; commit = finding.merging.commit; tree = tree })

unfoldable pub prepared : List (Name × Text) → Text → Turn Denial Prepared
prepared vars word = do
  finding ← looks (found vars word)
  prepared_from finding

-- a pick that is prepared, with its commit at a moment
unfoldable pub finished : Prepared → Text → ℤ → Turn Denial Id
finished pick zone secs =
    committed pick.on pick.head pick.tree pick.commit (record { name = pick.committer.name; email = pick.committer.email; secs = secs; zone = zone })

-- The commit that a pick of this word makes at a moment, in seconds; answers its id.
unfoldable pub picked : Env → ℤ → Text → Turn Denial Id
picked env secs word = do
  pick ← prepared env.vars word
  finished pick env.zone secs
