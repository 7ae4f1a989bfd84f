-- Objects and commits by their ids, or what is lacked: an object that is missing, damaged or of another kind, or a limit that it passes.
use Rattle.std.specs.Prelude.{ℕ, Bool, true, false, nat_lt, if◌then◌else◌, ◌&&◌, codes, length, Option, Some, None, Result, Ok, Err}
use Rattle.object_text.specs.Store.{commit_of, object_at, oversize_at}
use Rattle.object_text.specs.declared.commit.Commit.{Commit as CommitFields}
use Rattle.object_text.specs.declared.object.Kind.{Kind}
use Rattle.object_text.specs.declared.object.Kind.TheVariants.{Blob, Tree, Commit, Tag}
use Rattle.object_text.specs.declared.object.Object.{Object}
use Rattle.seq_base.specs.Paths.{parts}
use Rattle.seq_base.specs.Repository.{is_file_place}
use Rattle.seq_base.specs.Words.{Id, Path, Text}
use Rattle.seq_base.specs.World.{World, is_below}
use Rattle.seq_outside.specs.Halts.{◌>>=◌, or_stop, stop_if}
use Rattle.seq_outside.specs.declared.lack.Lack.{Lack}
use Rattle.seq_outside.specs.declared.lack.Lack.TheVariants as lack
use Rattle.seq_outside.specs.declared.limit.LimitWhat.TheVariants.{ObjectBytes, Parents}

-- an object is too large, or else bad
abbrev pub no_object : Id → Option ℕ → Lack
no_object id (Some size) = lack.Limit ObjectBytes size
no_object id None = lack.Object id

-- the object of an id
unfoldable pub object_named : World → Id → Result Object Lack
object_named w id = or_stop (object_at w id) (no_object id (oversize_at w id))

abbrev pub is_commit_kind : Kind → Bool
is_commit_kind Commit = true
is_commit_kind Blob = false
is_commit_kind Tree = false
is_commit_kind Tag = false

-- the commit that a content spells
unfoldable pub commit_spelled : Id → Text → Result CommitFields Lack
commit_spelled id content = do
  commit ← or_stop (commit_of content) (lack.Object id)
  few ← stop_if (nat_lt 16 (length commit.parents)) (lack.Limit Parents (length commit.parents))
  Ok commit

-- the commit that an object is
unfoldable pub commit_in : Id → Object → Result CommitFields Lack
commit_in id object = if is_commit_kind object.kind then commit_spelled id object.bytes else Err (lack.Object id)

-- the commit of an id, with no tag in between
unfoldable pub commit_named : World → Id → Result CommitFields Lack
commit_named w id = do
  object ← object_named w id
  commit_in id object

-- where an object's file is kept
abbrev pub is_object_place : Path → Bool
is_object_place path = is_below (codes ".git/objects") path && is_file_place (parts path)
