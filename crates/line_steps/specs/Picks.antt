-- The line `pick` (git-rebase(1), "INTERACTIVE MODE", "--empty"; git-cherry-pick(1)).
use Rattle.std.specs.Prelude.{Bool, true, false, ◌&&◌, if◌then◌else◌, List, [], ◌∷◌, ◌++◌, codes, Option, Some, None}
use Rattle.std.specs.Str.{bytes_eq}
use Rattle.ident_text.specs.ReadIdents.{whole_ident_from}
use Rattle.index_file.specs.declared.entry.IndexEntry.{IndexEntry}
use Rattle.message_text.specs.Paragraphs.{subject}
use Rattle.ref_text.specs.ReadHeads.{ok_of}
use Rattle.ref_text.specs.declared.log.LogLine.{LogLine}
use Rattle.seq_base.specs.PathMaps.{Entries}
use Rattle.seq_base.specs.Words.{Id, Path, Text}
use Rattle.seq_base.specs.World.{World}
use Rattle.seq_model.specs.declared.stop.StopKind.{StopKind}
use Rattle.seq_model.specs.declared.stop.StopKind.TheVariants as kind
use Rattle.seq_outside.specs.Doing.{◌>>=◌, Does, End, Goes, Starves, Step, Stops, gives, looks, place, places, saying, stops, within}
use Rattle.seq_outside.specs.declared.child.Exit.{Exit}
use Rattle.stage_index.specs.Conflicts.{Files}
use Rattle.state_text.specs.declared.control.Form.TheVariants.{New}
use Rattle.state_text.specs.declared.control.Pending.{Pending}
use Rattle.state_text.specs.declared.options.Empty.{Empty}
use Rattle.state_text.specs.declared.options.Empty.TheVariants as empty
use Rattle.state_text.specs.declared.options.Options.{Options}
use Rattle.line_steps.specs.Finding.{Found, Picked, found_at, picked_at, sides_at, theirs_at}
use Rattle.line_steps.specs.Hooks.{hook_does}
use Rattle.line_steps.specs.Layers.{Commits, EditorFailed, EmptyMessage, HookRefused, Lacks, Made, MakeStop, Makers, Making, Message, Setting, Sides}
use Rattle.line_steps.specs.Layers.{Merged}
use Rattle.content_merge.specs.declared.merged.Merged.TheVariants as merged
use Rattle.line_steps.specs.Places.{Doing, Place, Stop, blocked_at, heads, lacked_at, reads, stop_of, with_unseen, writes}
use Rattle.line_steps.specs.Writing.{back_from, conflicted_with, head_moved, is_same, line_of, switched_over, switched_with, turn_ident}

-- a commit is picked onto HEAD, which is at that commit
pub record Picking : Type 0 where
  pub head : Id
  pub found : Found
  pub pick : Picked

-- ---- back to HEAD's map

abbrev pub is_blocked_kind : StopKind → Bool
is_blocked_kind (kind.Blocked why) = true
is_blocked_kind _ = false

abbrev pub with_world : {X : Type 0} → World → Step Place Stop X → Step Place Stop X
with_world w step = record step { spot = record { world = w; place = step.spot.place } }

abbrev pub back_if : (World → World) → Stop → World → World
back_if back stop w = if is_blocked_kind stop.kind then back w else w

abbrev pub end_back : {X : Type 0} → (World → World) → End Stop X → Step Place Stop X → Step Place Stop X
end_back back (Goes x) step = step
end_back back (Stops stop) step = with_world (back_if back stop step.spot.world) step
end_back back Starves step = step

-- a step after index and files were switched: where the line is blocked in it they are put back
abbrev pub or_back : {X : Type 0} → (World → World) → Doing X → Doing X
or_back back step spot coming = let first = step spot coming in end_back back first.end first

-- ---- stops

abbrev pub pending_of : Bool → Picked → Pending
pending_of edit pick = record {
  form = New;
  edit = edit;
  author = ok_of (whole_ident_from pick.commit.author);
  encoding = pick.commit.encoding;
  message = pick.commit.message;
}

-- the line is done, and its commit pending
abbrev pub stop_with : StopKind → Bool → Picked → Stop
stop_with why edit pick = record (stop_of why) { pending = Some (pending_of edit pick); commit = Some pick.id }

abbrev pub at_unmade : Bool → Picked → MakeStop → Stop
at_unmade edit pick (HookRefused name exit failed) = record (stop_with (kind.HookRefused name exit) edit pick) { failed = failed }
at_unmade edit pick (EditorFailed exit failed) = record (stop_with (kind.EditorFailed exit) edit pick) { failed = failed }
at_unmade edit pick EmptyMessage = stop_with kind.EmptyMessage edit pick
at_unmade edit pick (Lacks lack) = lacked_at pick.id lack

abbrev pub at_broken : Picked → Path → Exit → Bool → Stop
at_broken pick path exit failed = record (stop_of (kind.DriverBroken path exit)) { put_back = true; commit = Some pick.id; failed = failed }

-- ---- the line

abbrev pub unseen_within : {E X : Type 0} → Does Bool E X → Does Place E X
unseen_within step = within (λ p. p.unseen) with_unseen step

abbrev pub no_place : Place → Unit {0}
no_place _ = tt

abbrev pub same_place : Unit {0} → Place → Place
same_place none place = place

-- of a step that has no place of its own beside the world
abbrev pub placeless : {E X : Type 0} → Does (Unit {0}) E X → Does Place E X
placeless step = within no_place same_place step

abbrev pub making_of : Bool → Id → Picked → Id → Making
making_of edit head pick tree = record {
  tree = tree;
  parents = head ∷ [];
  author = ok_of (whole_ident_from pick.commit.author);
  encoding = pick.commit.encoding;
  message = pick.commit.message;
  chain = false;
  edit = edit;
  source = Message;
}

-- the commit waits to be paired with what became of it
abbrev pub waits : Id → Doing (Unit {0})
waits id = places (λ p. record p { waiting = p.waiting ++ id ∷ [] })

abbrev pub made_line : Picking → Made → LogLine
made_line at made = line_of (codes "pick") made.subject at.head made.id made.ident

-- the hook of a commit that was made is run
unfoldable pub hook_waits : Id → Doing (Unit {0})
hook_waits id = do
  _ ← hook_does (codes "post-commit") [] []
  waits id

-- HEAD is at a commit that was made
unfoldable pub made_heads : Id → Id → Doing (Unit {0})
made_heads id pick = do
  _ ← heads id
  hook_waits pick

-- HEAD goes to a commit that was made, and its hook is run
unfoldable pub made_does : Picking → Made → Doing (Unit {0})
made_does at made = do
  _ ← writes (blocked_at at.pick.id) (head_moved at.head made.id (made_line at made))
  made_heads made.id at.pick.id

-- a commit of the tree on HEAD
unfoldable pub tree_does : Commits → Setting → Bool → Picking → Id → Doing (Unit {0})
tree_does commits setting edit at tree = do
  made ← saying (at_unmade edit at.pick) (unseen_within (commits setting (making_of edit at.head at.pick tree)))
  made_does at made

-- index and files are switched to the merged map, and its commit is made
unfoldable pub commit_does : Commits → Setting → Bool → Picking → Entries → List Text → Doing (Unit {0})
commit_does commits setting edit at m blobs = do
  tree ← writes (lacked_at at.pick.id) (switched_with at.found m blobs)
  or_back (back_from m at.found.ours) (tree_does commits setting edit at tree)

-- a commit that becomes empty here
abbrev pub by_empty : Empty → Picked → Doing (Unit {0}) → Doing (Unit {0})
by_empty empty.Drop pick commits = gives tt
by_empty empty.Keep pick commits = commits
by_empty empty.Stop pick commits = stops (stop_with (kind.Empty pick.id) true pick)

-- A commit that changes nothing here: one that never did is kept.
abbrev pub unless_empty : Options → Sides → Entries → Picked → Doing (Unit {0}) → Doing (Unit {0})
unless_empty options sides m pick commits =
    if is_same m sides.ours then (if is_same sides.base sides.theirs then commits else by_empty options.empty pick commits) else commits

-- the conflict stands in index and files
unfoldable pub conflict_does : Picking → List IndexEntry → Files → List Text → Doing (Unit {0})
conflict_does at index files blobs = do
  _ ← writes (lacked_at at.pick.id) (conflicted_with at.found.index index files blobs)
  stops (stop_with kind.Conflict true at.pick)

-- by what the merge comes to
abbrev pub merged_does : Makers → Setting → Options → Picking → Sides → Merged → Doing (Unit {0})
merged_does makers setting options at sides (merged.Clean m blobs) =
    unless_empty options sides m at.pick (commit_does makers.commits setting options.edit at m blobs)
merged_does makers setting options at sides (merged.Conflict index files blobs) = conflict_does at index files blobs
merged_does makers setting options at sides (merged.Broken path exit failed) = stops (at_broken at.pick path exit failed)

unfoldable pub merge_with : Makers → Setting → Options → Picking → Sides → Doing (Unit {0})
merge_with makers setting options at sides = do
  comes_to ← saying (lacked_at at.pick.id) (placeless (makers.merges setting sides))
  merged_does makers setting options at sides comes_to

-- the commit's change is merged into HEAD's map
unfoldable pub merge_does : Makers → Setting → Options → Picking → Doing (Unit {0})
merge_does makers setting options at = do
  sides ← looks (sides_at at.found.ours at.pick)
  merge_with makers setting options at sides

abbrev pub forward_line : Setting → Picking → LogLine
forward_line setting at = line_of (codes "pick") (subject at.pick.commit.message) at.head at.pick.id (turn_ident setting)

abbrev pub forward_moved : Setting → Picking → Doing (Unit {0})
forward_moved setting at = writes (blocked_at at.pick.id) (head_moved at.head at.pick.id (forward_line setting at))

-- HEAD is at the commit itself, which waits
unfoldable pub forward_heads : Id → Doing (Unit {0})
forward_heads id = do
  _ ← heads id
  waits id

-- HEAD is moved, or index and files go back
unfoldable pub forward_or_back : Setting → Picking → Entries → Doing (Unit {0})
forward_or_back setting at theirs = or_back (back_from theirs at.found.ours) (forward_moved setting at)

unfoldable pub forward_goes : Setting → Picking → Entries → Doing (Unit {0})
forward_goes setting at theirs = do
  _ ← forward_or_back setting at theirs
  forward_heads at.pick.id

-- index and files are switched to the commit's map, and HEAD goes to it
unfoldable pub forward_to : Setting → Picking → Entries → Doing (Unit {0})
forward_to setting at theirs = do
  _ ← writes (lacked_at at.pick.id) (switched_over at.found.index theirs)
  forward_goes setting at theirs

-- HEAD goes to the commit itself
unfoldable pub forward_does : Setting → Picking → Doing (Unit {0})
forward_does setting at = do
  theirs ← looks (theirs_at at.pick)
  forward_to setting at theirs

-- the commit's only parent is HEAD, and such a commit need not be made anew
abbrev pub goes_forward : Options → Id → Option Id → Bool
goes_forward options head None = false
goes_forward options head (Some parent) = options.ff && bytes_eq parent head

abbrev pub picks : Makers → Setting → Options → Picking → Doing (Unit {0})
picks makers setting options at =
    if goes_forward options at.head at.pick.parent then forward_does setting at else merge_does makers setting options at

-- a commit is picked onto HEAD
unfoldable pub picked_does : Makers → Setting → Options → Id → Picked → Doing (Unit {0})
picked_does makers setting options head pick = do
  found ← reads (blocked_at pick.id) (found_at head)
  picks makers setting options (record { head = head; found = found; pick = pick })

unfoldable pub named_does : Makers → Setting → Options → Text → Id → Doing (Unit {0})
named_does makers setting options rev head = do
  pick ← looks (picked_at rev)
  picked_does makers setting options head pick

-- The commit that a line names is picked onto HEAD.
unfoldable pub pick_does : Makers → Setting → Options → Text → Doing (Unit {0})
pick_does makers setting options rev = do
  here ← place
  named_does makers setting options rev here.head
