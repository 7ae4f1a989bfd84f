-- What a clean pick makes: trees, index and files, a commit, and HEAD's new place (git-cherry-pick(1); gitrepository-layout(5)).
use Rattle.std.specs.Prelude.{nat_lt, is_none, List, [], ◌∷◌, ◌++◌, replicate, codes, length, if◌then◌else◌, Option, Some, None, Result, Ok, Err}
use Rattle.std.specs.Str.{bytes_eq}
use Rattle.ident_text.specs.declared.ident.Ident.{Ident}
use Rattle.ident_text.specs.Idents.{ident_text}
use Rattle.index_file.specs.Index.{indexed}
use Rattle.index_file.specs.declared.entry.IndexEntry.{IndexEntry}
use Rattle.message_text.specs.Paragraphs.{subject}
use Rattle.object_text.specs.Commits.{commit_text}
use Rattle.object_text.specs.declared.commit.Commit.{Commit as CommitFields}
use Rattle.object_text.specs.declared.object.Kind.TheVariants.{Commit}
use Rattle.object_text.specs.declared.object.Object.{Object}
use Rattle.objects.specs.Puts.{object_put}
use Rattle.path_trees.specs.Puts.{trees_put}
use Rattle.ref_store.specs.Moves.{head_moved}
use Rattle.ref_text.specs.declared.head.Head.{Head}
use Rattle.ref_text.specs.declared.log.LogLine.{LogLine}
use Rattle.seq_base.specs.Words.{Id, Path, Text}
use Rattle.seq_outside.specs.Turns.{Turn, ◌>>=◌, gives, looked, looks, put_in, saying}
use Rattle.stage_index.specs.Changes.{staged}
use Rattle.stage_index.specs.Stages.{Entries}
use Rattle.stage_index.specs.Switching.{first_obstructed}
use Rattle.worktree.specs.Switches.{switched_clear}
use Rattle.seq_model.specs.Basis.{index_limit}
use Rattle.seq_model.specs.Refusing.{denied_file, denied_git, refuse_found}
use Rattle.seq_model.specs.declared.denial.Denial.{Denial}
use Rattle.seq_model.specs.declared.denial.Denial.TheVariants.{Refused, Limit}
use Rattle.seq_model.specs.declared.refusal.Refusal.TheVariants.{NotBuilt, WouldOverwrite}
use Rattle.seq_outside.specs.declared.limit.LimitWhat.TheVariants.{IndexEntries}

-- ---- trees, index and files

-- a map that a commit on HEAD's map can have: not too large, and another than HEAD's
unfoldable pub can_have : Entries → Entries → Result (Unit {0}) Denial
can_have ours m =
    if nat_lt index_limit (length m) then Err (Limit IndexEntries (length m))
    else if is_none (staged (indexed m) ours) then Err (Refused NotBuilt)
    else Ok tt

abbrev pub message_path : Path
message_path = codes ".git/COMMIT_EDITMSG"

-- the trees of a map, index and files that are switched to it where no file is in the way, and a message; answers the root's id
unfoldable pub switched_clear_to : List IndexEntry → Entries → Text → Turn Denial Id
switched_clear_to index m message = do
  tree ← saying denied_git (trees_put m)
  switched ← saying denied_file (switched_clear index m)
  written ← saying denied_git (put_in message_path message)
  gives tree

-- the same, for a map that a commit on HEAD's can have, and in whose way no untracked file is
unfoldable pub switched_to : List IndexEntry → Entries → Entries → Text → Turn Denial Id
switched_to index ours m message = do
  fits ← looked (can_have ours m)
  clear ← looks (λ w. refuse_found (first_obstructed w index m) WouldOverwrite)
  switched_clear_to index m message

-- ---- the commit

-- a commit of a tree on HEAD, with the author, the encoding and the message of another
abbrev pub commit_on : Id → Id → CommitFields → Text → CommitFields
commit_on tree head commit ident =
    record { tree = tree; parents = head ∷ []; author = commit.author; committer = ident; encoding = commit.encoding; message = commit.message }

abbrev pub commit_object : CommitFields → Object
commit_object commit = record { kind = Commit; bytes = commit_text commit }

-- an id of zeros alone is no value
abbrev pub value_of : Id → Option Id
value_of id = if bytes_eq id (replicate 20 0) then None else Some id

-- the line that a pick leaves in the logs
abbrev pub pick_line : Id → Id → Text → Text → LogLine
pick_line head id ident message = record { old = value_of head; new = id; ident = ident; message = codes "cherry-pick: " ++ subject message }

-- a commit, to which HEAD is moved from another, with the pick's line in its logs; answers its id
unfoldable pub with_commit : Head → Id → CommitFields → Text → Turn Denial Id
with_commit on head commit ident = do
  id ← saying denied_git (object_put (commit_object commit))
  moved ← saying denied_git (head_moved on id (pick_line head id ident commit.message))
  gives id

-- the commit that a pick makes
unfoldable pub committed : Head → Id → Id → CommitFields → Ident → Turn Denial Id
committed on head tree commit ident = with_commit on head (commit_on tree head commit (ident_text ident)) (ident_text ident)
