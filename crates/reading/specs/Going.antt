-- How a turn of a list goes on: at its start; or with what was pending, or without it; and then with its lines (git-rebase(1), "--continue" and
-- "--skip").
use Rattle.std.specs.Prelude.{ℕ, true, false, if◌then◌else◌, List, [], ◌∷◌, ◌++◌, codes, unwrap_or, Option, Some, None}
use Rattle.std.specs.List.{list_any}
use Rattle.std.specs.Str.{bytes_eq}
use Rattle.hex.specs.Hex.{encode_lower}
use Rattle.index_file.specs.declared.entry.IndexEntry.{IndexEntry}
use Rattle.ref_text.specs.declared.log.LogLine.{LogLine}
use Rattle.seq_base.specs.PathMaps.{Entries}
use Rattle.seq_base.specs.Words.{Id, Text}
use Rattle.seq_base.specs.World.{World}
use Rattle.state_text.specs.Texts.{zeros}
use Rattle.state_text.specs.declared.options.Empty.{Empty}
use Rattle.state_text.specs.declared.options.Empty.TheVariants as empty
use Rattle.seq_model.specs.declared.reason.Reason.{Reason}
use Rattle.seq_model.specs.declared.reason.Reason.TheVariants as reason
use Rattle.seq_model.specs.declared.stop.StopKind.{StopKind}
use Rattle.seq_model.specs.declared.stop.StopKind.TheVariants as kind
use Rattle.seq_outside.specs.Doing.{◌>>=◌, Does, Starves, ended_with, gives, looks, places, saying, stops}
use Rattle.seq_outside.specs.Halts.{for_reason}
use Rattle.seq_outside.specs.declared.lack.Lack.{Lack}
use Rattle.stage_index.specs.Mapping.{mapped}
use Rattle.stage_index.specs.Stages.{map_of}
use Rattle.stage_index.specs.declared.fault.StageFault.{StageFault}
use Rattle.worktree.specs.ResetTurns.{reset_to}
use Rattle.todo_text.specs.declared.todo_kind.TodoKind.{TodoKind}
use Rattle.state_text.specs.declared.control.Control.{Control}
use Rattle.state_text.specs.declared.control.Form.TheVariants.{Merge, New, Amend}
use Rattle.state_text.specs.declared.control.Form.{Form}
use Rattle.state_text.specs.declared.control.Left.TheVariants.{Lines, Raw}
use Rattle.state_text.specs.declared.control.Left.{Left}
use Rattle.state_text.specs.declared.control.Pending.{Pending}
use Rattle.state_text.specs.declared.stop_word.StopWord.{StopWord}
use Rattle.state_text.specs.declared.stop_word.StopWord.TheVariants as stop
use Rattle.line_steps.specs.Finding.{Found, found_at, map_held}
use Rattle.line_steps.specs.Heads.{index_found, map_found}
use Rattle.line_steps.specs.Hooks.{hook_does}
use Rattle.line_steps.specs.Layers.{EditorFailed, EmptyMessage, HookRefused, Lacks, Made, MakeStop, Making, Source}
use Rattle.line_steps.specs.declared.setting.Setting.{Setting}
use Rattle.line_steps.specs.Making.{commits_by}
use Rattle.line_steps.specs.Layers as source
use Rattle.line_steps.specs.Picks.{unseen_within}
use Rattle.line_steps.specs.Places.{Doing, heads, reads, reason_of, stop_of, writes}
use Rattle.line_steps.specs.declared.place.Place.{Place}
use Rattle.line_steps.specs.declared.stop.Stop.{Stop}
use Rattle.reading.specs.Resuming.{Going, has_moved, resets_at}
use Rattle.reading.specs.State.{begun, with_state}
use Rattle.reading.specs.Stages.{Pause, between, left_as, lines_do, paused_at}
use Rattle.reading.specs.Starting.{Planned, Start, onto_switched}
use Rattle.reading.specs.Tapes.{Again, Continue, Skip}
use Rattle.reading.specs.Todos.{fault_of, todo_lines}
use Rattle.line_steps.specs.Writing.{head_moved, is_same, line_of, tree_put}

-- ---- a pending commit

-- its line stays done, and it stays pending
abbrev pub pending_stop : Control → Pending → StopKind → Stop
pending_stop k pending why = record (stop_of why) { pending = Some pending; commit = k.stopped_commit }

abbrev pub pending_blocked : Control → Pending → Reason → Stop
pending_blocked k pending why = pending_stop k pending (kind.Blocked why)

abbrev pub pending_lacks : Control → Pending → Lack → Stop
pending_lacks k pending lack = pending_blocked k pending (reason_of lack)

abbrev pub pending_unmade : Control → Pending → MakeStop → Stop
pending_unmade k pending (HookRefused name exit failed) = record (pending_stop k pending (kind.HookRefused name exit)) { failed = failed }
pending_unmade k pending (EditorFailed exit failed) = record (pending_stop k pending (kind.EditorFailed exit)) { failed = failed }
pending_unmade k pending EmptyMessage = pending_stop k pending kind.EmptyMessage
pending_unmade k pending (Lacks lack) = pending_lacks k pending lack

-- the commit waits to be paired with what became of it, if it does not wait already
abbrev pub with_waiting : List Id → Option Id → List Id
with_waiting waiting None = waiting
with_waiting waiting (Some id) = if list_any (λ other. bytes_eq other id) waiting then waiting else waiting ++ id ∷ []

abbrev pub waits_once : Option Id → Doing (Unit {0})
waits_once commit = places (λ p. record p { waiting = with_waiting p.waiting commit })

-- an amended commit has the parents of HEAD's
abbrev pub pending_parents : Id → List Id → Form → List Id
pending_parents head parents New = head ∷ []
pending_parents head parents Amend = parents
pending_parents head parents (Merge other) = head ∷ other ∷ []

abbrev pub pending_source : Form → Source
pending_source New = source.Message
pending_source Amend = source.Message
pending_source (Merge other) = source.Merge

abbrev pub pending_making : Id → List Id → Id → Pending → Making
pending_making head parents tree pending = record {
  tree = tree;
  parents = pending_parents head parents pending.form;
  author = pending.author;
  encoding = pending.encoding;
  message = pending.message;
  chain = false;
  edit = pending.edit;
  source = pending_source pending.form;
}

abbrev pub continue_line : Id → Made → LogLine
continue_line head made = line_of (codes "continue") made.subject head made.id made.ident

-- the hook of a commit that was made is run
unfoldable pub hook_waits_once : Option Id → Doing (Unit {0})
hook_waits_once commit = do
  _ ← hook_does (codes "post-commit") [] []
  waits_once commit

-- HEAD is at a commit that was made
unfoldable pub continued_heads : Id → Option Id → Doing (Unit {0})
continued_heads id commit = do
  _ ← heads id
  hook_waits_once commit

-- HEAD goes to the commit that was made, and its hook is run
unfoldable pub continued_does : Control → Pending → Id → Made → Doing (Unit {0})
continued_does k pending head made = do
  _ ← writes (pending_blocked k pending) (head_moved head made.id (continue_line head made))
  continued_heads made.id k.stopped_commit

-- the pending commit has this tree
unfoldable pub pending_tree_does : Setting → Control → Pending → Id → List Id → Id → Doing (Unit {0})
pending_tree_does setting k pending head parents tree = do
  made ← saying (pending_unmade k pending) (unseen_within (commits_by setting (pending_making head parents tree pending)))
  continued_does k pending head made

-- the pending commit is made of this map
unfoldable pub pending_map_does : Setting → Control → Pending → Id → Found → Entries → Doing (Unit {0})
pending_map_does setting k pending head found m = do
  tree ← writes (pending_lacks k pending) (tree_put found m)
  pending_tree_does setting k pending head found.parents tree

-- whatever is at fault, the index is bad
abbrev pub pending_misfit : Control → Pending → StageFault → Stop
pending_misfit k pending fault = pending_blocked k pending reason.BadIndex

-- the pending commit is made of the index's map
unfoldable pub pending_does : Setting → Control → Pending → Id → Found → Doing (Unit {0})
pending_does setting k pending head found = do
  m ← looks (λ w. for_reason (pending_misfit k pending) (mapped found.index))
  pending_map_does setting k pending head found m

-- a commit whose conflict was resolved to nothing; an id of zeros, where it is not told which
abbrev pub stop_empty : Control → Pending → Stop
stop_empty k pending = pending_stop k (record pending { edit = true }) (kind.Empty (unwrap_or k.stopped_commit zeros))

abbrev pub resolved_empty : Empty → Stop → Doing (Unit {0}) → Doing (Unit {0})
resolved_empty empty.Drop emptied commits = gives tt
resolved_empty empty.Keep emptied commits = commits
resolved_empty empty.Stop emptied commits = stops emptied

-- a commit of a conflict is one beside HEAD's, and only such a one goes by the option
abbrev pub resolved_form : Form → Empty → Stop → Doing (Unit {0}) → Doing (Unit {0})
resolved_form New empty emptied commits = resolved_empty empty emptied commits
resolved_form Amend empty emptied commits = commits
resolved_form (Merge other) empty emptied commits = commits

-- where the index's map is HEAD's, a conflict was resolved to nothing, and at an `edit` there is nothing to amend
abbrev pub if_nothing_staged : StopWord → Form → Empty → Stop → Doing (Unit {0}) → Doing (Unit {0})
if_nothing_staged stop.Conflict form empty emptied commits = resolved_form form empty emptied commits
if_nothing_staged stop.Edit form empty emptied commits = gives tt
if_nothing_staged _ form empty emptied commits = commits

abbrev pub unless_nothing_staged : Control → Pending → Found → Doing (Unit {0}) → Doing (Unit {0})
unless_nothing_staged k pending found commits =
    if is_same (map_of found.index) found.ours then if_nothing_staged k.stop pending.form k.options.empty (stop_empty k pending) commits else commits

unfoldable pub commit_pending : Setting → Control → Pending → Id → Doing (Unit {0})
commit_pending setting k pending head = do
  found ← reads (pending_blocked k pending) (found_at head)
  unless_nothing_staged k pending found (pending_does setting k pending head found)

-- The pending commit is made. Where HEAD has moved, the user made it.
abbrev pub continue_does : Going → Control → Option Pending → Doing (Unit {0})
continue_does going k None = gives tt
continue_does going k (Some pending) =
    if has_moved k going.head then waits_once k.stopped_commit else commit_pending going.setting k pending going.head

-- ---- skip

-- what is lacked between lines
abbrev pub between_lines : Lack → Stop
between_lines lack = between (reason_of lack)

-- index and files are HEAD's
unfoldable pub reset_does : Going → Doing (Unit {0})
reset_does going = do
  ours ← reads between_lines (map_held going.head)
  writes between_lines (reset_to going.index ours)

abbrev pub skip_does : Going → Control → Doing (Unit {0})
skip_does going k = if resets_at k.stop then reset_does going else gives tt

-- ---- a turn

abbrev pub acts : Again → Going → Control → Doing (Unit {0})
acts Continue going k = continue_does going k k.pending
acts Skip going k = skip_does going k

unfoldable pub resume_from : Again → Going → Control → Doing (Unit {0})
resume_from again going k = do
  _ ← heads going.head
  acts again going k

-- an invocation is at work first
unfoldable pub resume_does : Again → Going → Control → Doing (Unit {0})
resume_does again going k = do
  _ ← left_as (begun k)
  resume_from again going k

-- a turn that goes on: first with what the last one left pending, then with the lines that are left
unfoldable pub goes_on : Again → Going → Control → Does Place Pause (Unit {0})
goes_on again going k = do
  _ ← saying (paused_at 0) (resume_does again going k)
  lines_do going.setting k going.left 0

-- ---- a start

-- the old head, the new one, and that a branch was checked out
abbrev pub checkout_words : Control → List Text
checkout_words k = encode_lower k.orig ∷ encode_lower k.onto ∷ codes "1" ∷ []

-- HEAD is at onto, and the hook is told so
unfoldable pub start_heads : Control → Doing (Unit {0})
start_heads k = do
  _ ← heads k.onto
  hook_does (codes "post-checkout") (checkout_words k) []

-- index, files and HEAD go to onto
unfoldable pub start_onto : Setting → Planned → List IndexEntry → Entries → Doing (Unit {0})
start_onto setting plan index onto = do
  _ ← writes between (onto_switched setting plan index onto)
  start_heads plan.control

-- the files of the list are there first
unfoldable pub start_from : Setting → Planned → List IndexEntry → Entries → Doing (Unit {0})
start_from setting plan index onto = do
  _ ← left_as (λ w. begun plan.control (with_state plan.control w))
  start_onto setting plan index onto

unfoldable pub start_does : Setting → Planned → Doing (Unit {0})
start_does setting plan = do
  index ← reads between index_found
  onto ← reads between (λ w. map_found w plan.control.onto)
  start_from setting plan index onto

abbrev pub todo_stop : ℕ × TodoKind → Stop
todo_stop at = stop_of (kind.TodoBad at.0 at.1)

-- the first bad line of a todo that does not read (no start that was checked has another)
abbrev pub todo_bad : Option (ℕ × TodoKind) → Does Place Pause (Unit {0})
todo_bad None = ended_with Starves
todo_bad (Some at) = stops (paused_at 0 (todo_stop at))

-- the first bad line of what is left, where that does not read, by the world in which it was checked
abbrev pub bad_in : World → Left → Option (ℕ × TodoKind)
bad_in w (Lines lines) = None
bad_in w (Raw todo) = fault_of (todo_lines w false todo)

abbrev pub left_do : Setting → Control → Option (ℕ × TodoKind) → Left → Does Place Pause (Unit {0})
left_do setting k bad (Lines lines) = lines_do setting k lines 0
left_do setting k bad (Raw todo) = todo_bad bad

-- index, files and HEAD at onto, and then the lines
unfoldable pub begins_with : Setting → Planned → Option (ℕ × TodoKind) → Does Place Pause (Unit {0})
begins_with setting plan bad = do
  _ ← saying (paused_at 0) (start_does setting plan)
  left_do setting plan.control bad plan.control.left

-- a turn that starts
abbrev pub begins : Setting → Start → Does Place Pause (Unit {0})
begins setting start = begins_with setting start.plan (bad_in start.world start.plan.control.left)
