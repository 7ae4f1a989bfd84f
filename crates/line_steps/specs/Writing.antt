-- What a line writes, as steps over a world: blobs, trees, index and files, and HEAD (git-rebase(1); git-write-tree(1)).
use Rattle.std.specs.Prelude.{Bool, is_none, if◌then◌else◌, List, [], ◌∷◌, ◌++◌, codes, Result, Ok, Err}
use Rattle.ident_text.specs.Idents.{ident_text}
use Rattle.ident_text.specs.declared.ident.Ident.{Ident}
use Rattle.index_file.specs.Index.{indexed}
use Rattle.index_file.specs.declared.entry.IndexEntry.{IndexEntry}
use Rattle.object_text.specs.declared.object.Kind.TheVariants.{Blob}
use Rattle.objects.specs.Puts.{object_of, object_put}
use Rattle.path_trees.specs.Puts.{trees_put}
use Rattle.ref_store.specs.Changes.{head_set}
use Rattle.ref_store.specs.declared.fault.RefFault.{RefFault}
use Rattle.ref_store.specs.declared.fault.RefFault.TheVariants as fault
use Rattle.ref_text.specs.declared.head.Head.TheVariants.{Detached}
use Rattle.ref_text.specs.declared.log.LogLine.{LogLine}
use Rattle.seq_base.specs.PathMaps.{Entries}
use Rattle.seq_base.specs.Words.{Id, Text}
use Rattle.seq_base.specs.World.{World}
use Rattle.seq_model.specs.Making.{value_of}
use Rattle.seq_model.specs.declared.reason.Reason.{Reason}
use Rattle.seq_model.specs.declared.reason.Reason.TheVariants.{BadHead, BadName, HeadMoved}
use Rattle.seq_outside.specs.Turns.{◌>>=◌, Turn, gives, looks, saying}
use Rattle.seq_outside.specs.declared.lack.Lack.{Lack}
use Rattle.stage_index.specs.Changes.{first_difference}
use Rattle.stage_index.specs.Conflicts.{Files}
use Rattle.worktree.specs.ConflictTurns.{conflicted_clear}
use Rattle.worktree.specs.ResetTurns.{reset_to}
use Rattle.worktree.specs.Switches.{switched_clear}
use Rattle.line_steps.specs.Finding.{Found, may_conflict, may_stand, still_at}
use Rattle.line_steps.specs.Heads.{index_found}
use Rattle.line_steps.specs.Layers.{Setting}

-- ---- index and files

unfoldable pub blob_put : Text → Turn Lack (Unit {0})
blob_put bytes = do
  _ ← object_put (object_of Blob bytes)
  gives tt

-- the new blobs of a merge, one after another
unfoldable pub blobs_put : List Text → Turn Lack (Unit {0})
blobs_put [] = gives tt
blobs_put (bytes ∷ blobs) = do
  _ ← blob_put bytes
  blobs_put blobs

abbrev pub is_same : Entries → Entries → Bool
is_same a b = is_none (first_difference a b)

-- the tree of a map: HEAD's own where it is HEAD's map
abbrev pub tree_put : Found → Entries → Turn Lack Id
tree_put found m = if is_same m found.ours then gives found.tree else trees_put m

-- index and files of a map
unfoldable pub switched_over : List IndexEntry → Entries → Turn Lack (Unit {0})
switched_over index m = do
  _ ← looks (may_stand index m)
  switched_clear index m

unfoldable pub switched_giving : List IndexEntry → Entries → Id → Turn Lack Id
switched_giving index m tree = do
  _ ← switched_clear index m
  gives tree

unfoldable pub filled_with : Found → Entries → List Text → Turn Lack Id
filled_with found m blobs = do
  _ ← blobs_put blobs
  tree ← tree_put found m
  switched_giving found.index m tree

-- blobs, trees, index and files of a merged map; answers its tree
unfoldable pub switched_with : Found → Entries → List Text → Turn Lack Id
switched_with found m blobs = do
  _ ← looks (may_stand found.index m)
  filled_with found m blobs

unfoldable pub conflicted_filled : List IndexEntry → List IndexEntry → Files → List Text → Turn Lack (Unit {0})
conflicted_filled from index files blobs = do
  _ ← blobs_put blobs
  conflicted_clear from index files

-- The conflict stands in index and files, and the new blobs of the merge are there.
unfoldable pub conflicted_with : List IndexEntry → List IndexEntry → Files → List Text → Turn Lack (Unit {0})
conflicted_with from index files blobs = do
  _ ← looks (may_conflict from index files)
  conflicted_filled from index files blobs

-- ---- back to HEAD's map

abbrev pub entries_or_none : {E : Type 0} → Result (List IndexEntry) E → List IndexEntry
entries_or_none (Ok entries) = entries
entries_or_none (Err why) = []

-- Index and files of a map, over the paths of an index. Where a blob cannot be read all stays.
abbrev pub reset_over : List IndexEntry → Entries → World → World
reset_over from ours w = (reset_to from ours w).1

-- Index and files of HEAD's map, over the paths of the map that was switched to, and over those of the index as it was found.
unfoldable pub back_from : Entries → Entries → World → World
back_from to ours w = reset_over (entries_or_none (index_found w)) ours (reset_over (indexed to) ours w)

-- ---- HEAD

-- who commits, at the moment with which the turn began
abbrev pub turn_who : Setting → Ident
turn_who setting = record { name = setting.committer.name; email = setting.committer.email; secs = setting.secs; zone = setting.env.zone }

abbrev pub turn_ident : Setting → Text
turn_ident setting = ident_text (turn_who setting)

-- what a line of the todo leaves in HEAD's log
abbrev pub line_of : Text → Text → Id → Id → Text → LogLine
line_of command subject old id ident = record {
  old = value_of old;
  new = id;
  ident = ident;
  message = codes "rebase (" ++ command ++ codes "): " ++ subject;
}

abbrev pub reason_of_ref : RefFault → Reason
reason_of_ref fault.BadHead = BadHead
reason_of_ref (fault.BadRef name) = BadName name
reason_of_ref (fault.BadPacked line) = BadName (codes "packed-refs")
reason_of_ref (fault.BadLog line) = BadHead
reason_of_ref (fault.Moved found) = HeadMoved found
reason_of_ref (fault.Blocked name) = BadName name

-- HEAD is written detached, and its log has the line
unfoldable pub head_written : Id → LogLine → Turn Reason (Unit {0})
head_written id line = saying reason_of_ref (head_set (Detached id) line)

-- HEAD, which is still at the one commit, is written detached at the other
unfoldable pub head_moved : Id → Id → LogLine → Turn Reason (Unit {0})
head_moved head id line = do
  _ ← looks (still_at head)
  head_written id line
