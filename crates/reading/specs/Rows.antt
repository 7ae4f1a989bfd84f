-- Rows: a small list, for which a definition is computed.
use Rattle.std.specs.Prelude.{◌≡◌, ℕ, pos, Bool, true, false, List, [], ◌∷◌, ◌++◌, codes, replicate, Some, None, Ok, Err}
use Rattle.std.specs.FinMap as map
use Rattle.index_file.specs.declared.entry.IndexEntry.{IndexEntry}
use Rattle.ref_store.specs.Values.{value_at}
use Rattle.ref_store.specs.Changes.{is_barred}
use Rattle.ref_text.specs.declared.head.Head.TheVariants.{Branch, Detached}
use Rattle.seq_base.specs.PathMaps.{Entries}
use Rattle.seq_base.specs.Words.{Id, Name, Path, Text}
use Rattle.seq_base.specs.World.{World}
use Rattle.seq_base.specs.declared.mode.Mode.TheVariants.{File}
use Rattle.seq_model.specs.declared.denial.Denial.{Denial}
use Rattle.seq_model.specs.declared.denial.Denial.TheVariants.{Refused}
use Rattle.seq_model.specs.declared.reason.Reason.TheVariants as reason
use Rattle.seq_model.specs.declared.refusal.Refusal.TheVariants as refusal
use Rattle.seq_model.specs.declared.stop.StopKind.TheVariants as kind
use Rattle.seq_outside.specs.Doing.{End, Goes, Spot, Stops, ended_with, gives}
use Rattle.seq_outside.specs.Tape.{Coming, Ended}
use Rattle.seq_outside.specs.declared.child.Exit.{Exit}
use Rattle.seq_outside.specs.declared.child.Exit.TheVariants.{Code, Killed}
use Rattle.seq_outside.specs.declared.env.Env.{Env}
use Rattle.seq_outside.specs.declared.lack.Lack.TheVariants.{Way}
use Rattle.stage_index.specs.Conflicts.{Files}
use Rattle.stage_index.specs.Switching.{first_obstructed}
use Rattle.stage_index.specs.declared.conflict.ConflictFile.TheVariants.{Bytes}
use Rattle.state_text.specs.States.{state_files}
use Rattle.state_text.specs.Stops.{said_by}
use Rattle.state_text.specs.Texts.{id_line}
use Rattle.state_text.specs.declared.control.Control.{Control}
use Rattle.state_text.specs.declared.control.Form.TheVariants.{Amend, Merge, New}
use Rattle.state_text.specs.declared.control.Form.{Form}
use Rattle.state_text.specs.declared.control.Left.TheVariants.{Lines}
use Rattle.state_text.specs.declared.control.RefUpdate.{RefUpdate}
use Rattle.message_text.specs.declared.chain.ChainKind.TheVariants.{First}
use Rattle.state_text.specs.declared.options.Empty.{Empty}
use Rattle.state_text.specs.declared.options.Empty.TheVariants as empty
use Rattle.state_text.specs.declared.options.Options.{Options}
use Rattle.state_text.specs.declared.stop_word.StopWord.{StopWord}
use Rattle.state_text.specs.declared.stop_word.StopWord.TheVariants as stop
use Rattle.state_text.specs.declared.verb.Verb.TheVariants.{Rebase}
use Rattle.todo_text.specs.declared.line.Line.{Line}
use Rattle.todo_text.specs.declared.line.Line.TheVariants.{Break, Label, Noop, UpdateRef}
use Rattle.todo_text.specs.declared.todo_kind.TodoKind.TheVariants as todo
use Rattle.reading.specs.Aborting.{head_before, name_before}
use Rattle.reading.specs.Beginning.{denied, pre_rebase_does}
use Rattle.reading.specs.Ending.{EndRef, all_writable, end_refs, none_moved, update_ref}
use Rattle.line_steps.specs.Finding.{Found, Picked}
use Rattle.reading.specs.Going.{continue_does, if_nothing_staged, stop_empty, todo_bad}
use Rattle.line_steps.specs.Heads.{clean_at, head_found}
use Rattle.line_steps.specs.declared.unclean.Unclean.TheVariants.{IsChanged}
use Rattle.line_steps.specs.Hooks.{hook_does, hook_path}
use Rattle.content_merge.specs.declared.merged.Merged.TheVariants.{Broken}
use Rattle.line_steps.specs.Layers.{Sides}
use Rattle.line_steps.specs.declared.setting.Setting.{Setting}
use Rattle.line_steps.specs.Making.{makers}
use Rattle.line_steps.specs.Lines.{break_does, exec_does}
use Rattle.line_steps.specs.Picks.{Picking, at_broken, conflict_does, goes_forward, merged_does, pending_of, stop_with, unless_empty}
use Rattle.line_steps.specs.Places.{Doing, blocked, blocked_at, lacked_at, place_of, stop_of}
use Rattle.line_steps.specs.declared.place.Place.{Place}
use Rattle.line_steps.specs.declared.stop.Stop.{Stop}
use Rattle.reading.specs.Opening.{Checks, opened_at}
use Rattle.reading.specs.Readings.{Denied, kept_after, resumes_in, verdict_of, word_of}
use Rattle.reading.specs.Resuming.{Going, lines_after, may_continue, staged_refused, taken_up}
use Rattle.reading.specs.Stages.{lines_do, paired, paused_after, rewritten_does}
use Rattle.reading.specs.Starting.{Planned, start_line}
use Rattle.reading.specs.Tapes.{Again, Begins, Child, Continue, Goes as Resumes, Moment, Skip, Turn, calls, nothing}
use Rattle.reading.specs.Todos.{first_bad, kept_lines, numbers}
use Rattle.line_steps.specs.Writing.{conflicted_with, switched_with}

-- ---- small things

-- an id of one byte over and over
abbrev pub id_of : ℕ → Id
id_of n = replicate 20 n

abbrev pub options : Empty → Options
options empty = record { ff = true; empty = empty; reschedule = false; mainline = None; edit = false; record_origin = false; allow_empty = false }

-- a rebase of `topic`, which was at 17, onto 33, stopped at a commit
abbrev pub control : Control
control = record {
  verb = Rebase;
  options = options empty.Stop;
  head_name = Some (codes "refs/heads/topic");
  orig = id_of 17;
  onto = id_of 33;
  done = [];
  left = Lines [];
  backup = [];
  labels = [];
  updates = [];
  rewritten = [];
  waiting = [];
  chain = [];
  stop = stop.Conflict;
  stopped_head = id_of 33;
  stopped_commit = Some (id_of 34);
  pending = Some (record { form = New; edit = true; author = None; encoding = None; message = codes "one\n" });
}

abbrev pub spot : World → Spot Place
spot w = record { world = w; place = place_of control }

-- how a step ends, of which no event is left
abbrev pub end_of : World → Doing (Unit {0}) → End Stop (Unit {0})
end_of w does = (does (spot w) nothing).end

-- a ref that is to be updated
abbrev pub update_of : Name → RefUpdate
update_of name = record { name = name; expected = None; new = Some (id_of 33) }

-- one child is to come
abbrev pub one_child : Ended → Coming
one_child child = record nothing { children = child ∷ [] }

-- a child that ended so, and left all as it was
abbrev pub ended : Exit → World → Ended
ended exit w = record { exit = exit; left = w; failed = false }

abbrev pub ann : Text
ann = codes "Ann <ann@x> 1000 +0000"

abbrev pub picked : Picked
picked = record {
  id = id_of 34;
  commit = record { tree = id_of 35; parents = id_of 36 ∷ []; author = ann; committer = ann; encoding = None; message = codes "one\n" };
  parent = Some (id_of 36);
}

abbrev pub entry : ℕ → Path → ℕ → IndexEntry
entry stage path id = record { path = path; stage = stage; mode = File; id = id_of id }

-- an index in which `a` is not merged
abbrev pub three_stages : List IndexEntry
three_stages = entry 1 (codes "a") 1 ∷ entry 2 (codes "a") 2 ∷ entry 3 (codes "a") 3 ∷ []

-- ---- the rows

-- A conflict that is not resolved: `--continue` is refused, and names the path.
abbrev pub Unresolved : World → Type 0
Unresolved w = may_continue control (id_of 33) three_stages w ≡ Err (Refused (refusal.Unmerged (codes "a")))

-- `break` stops, and is done.
abbrev pub Breaks : World → Type 0
Breaks w = end_of w break_does ≡ Stops (stop_of kind.Break)

-- A commit is staged while HEAD has moved past the pending one.
abbrev pub StagedPast : Type 0
StagedPast = staged_refused true (id_of 50) control.pending (Some (codes "a")) ≡ Err (Refused (refusal.HeadMoved (Some (id_of 50))))

-- A branch that was moved during its rebase: nothing is written, and the stop names it and what it is at.
abbrev pub BranchMoved : World → Type 0
BranchMoved w = value_at w (codes "refs/heads/topic") ≡ Ok (Some (id_of 68))
    → none_moved (end_refs control (id_of 33) []) w ≡ Err (stop_of (kind.RefMoved (codes "refs/heads/topic") (Some (id_of 68))))

-- A commit waits, and is paired with HEAD; one that HEAD is at is no pair.
abbrev pub Pairs : Type 0
Pairs = paired (id_of 34 ∷ id_of 33 ∷ []) (id_of 33) ≡ (id_of 34, id_of 33) ∷ []

-- A pick that becomes empty stops, goes, or is made, as the option says; one that was empty from its start is made.
abbrev pub one_entry : Entries
one_entry = (codes "a", record { mode = File; id = id_of 1 }) ∷ []

abbrev pub sides : Entries → Sides
sides base = record { base = base; ours = one_entry; theirs = one_entry }

abbrev pub emptied : Empty → Entries → Doing (Unit {0})
emptied empty base = unless_empty (options empty) (sides base) one_entry picked break_does

abbrev pub BecomesEmpty : World → Type 0
BecomesEmpty w =
    (end_of w (emptied empty.Stop []) ≡ Stops (stop_with (kind.Empty (id_of 34)) true picked))
    × (end_of w (emptied empty.Drop []) ≡ Goes tt)
    × (end_of w (emptied empty.Keep []) ≡ Stops (stop_of kind.Break))
    × (end_of w (emptied empty.Drop one_entry) ≡ Stops (stop_of kind.Break))

-- A command that could not be run is tried again, as a line that was blocked; one that failed was run.
abbrev pub FailedWords : Type 0
FailedWords = (word_of true (kind.ExecFailed Killed) ≡ stop.Blocked) × (word_of false (kind.ExecFailed (Code 3)) ≡ stop.ExecFailed)

-- A command that exits with 3 is done, or put back where that is asked for.
abbrev pub ExecFails : World → Type 0
ExecFails w = (again : Bool)
    → (exec_does again (codes "exit 3") (spot w) (one_child (ended (Code 3) w))).end
    ≡ Stops (record (stop_of (kind.ExecFailed (Code 3))) { put_back = again })

-- ---- lines

abbrev pub found : Found
found = record { index = entry 0 (codes "a") 1 ∷ []; parents = []; tree = id_of 32; ours = one_entry }

abbrev pub picking : Picking
picking = record { head = id_of 33; found = found; pick = picked }

-- A commit whose only parent is HEAD is not made anew, unless that is asked for.
abbrev pub Forwards : Type 0
Forwards = (goes_forward (options empty.Drop) (id_of 36) picked.parent ≡ true)
    × (goes_forward (options empty.Drop) (id_of 33) picked.parent ≡ false)
    × (goes_forward (record (options empty.Drop) { ff = false }) (id_of 36) picked.parent ≡ false)

-- A conflict in `a`: once it stands in index and files, the line is done, and its commit pending, whose message is to be edited.
abbrev pub in_a : Files
in_a = (codes "a", Bytes (codes "2\n")) ∷ []

abbrev pub Conflicts : World → World → Type 0
Conflicts w v = conflicted_with found.index three_stages in_a [] w ≡ (Ok tt, v)
    → (conflict_does picking three_stages in_a [] (spot w) nothing).end ≡ Stops (stop_with kind.Conflict true picked)

-- An untracked file is in the way of the merged map: the line is put back, and nothing is changed.
abbrev pub with_n : Entries
with_n = one_entry ++ (codes "n", record { mode = File; id = id_of 2 }) ∷ []

abbrev pub InTheWay : World → Type 0
InTheWay w = first_obstructed w found.index with_n ≡ Some (codes "n")
    → (switched_with found with_n [] w ≡ (Err (Way (codes "n")), w))
    × (lacked_at (id_of 34) (Way (codes "n")) ≡ blocked_at (id_of 34) (reason.WouldOverwrite (codes "n")))
    × ((blocked_at (id_of 34) (reason.WouldOverwrite (codes "n"))).put_back ≡ true)

-- A merge driver that exits with 130 is broken: the line is put back, and nothing is changed.
abbrev pub DriverBreaks : Setting → World → Type 0
DriverBreaks setting w =
    (merged_does makers setting (options empty.Stop) picking (sides []) (Broken (codes "a") (Code 130) false) (spot w) nothing
    ≡ ended_with (Stops (at_broken picked (codes "a") (Code 130) false)) (spot w) nothing)
    × ((at_broken picked (codes "a") (Code 130) false).put_back ≡ true)

-- A hook that is not there is not run; of one that is, nothing but that it has ended is looked at.
abbrev pub post_commit : Doing (Unit {0})
post_commit = hook_does (codes "post-commit") [] []

abbrev pub HookRuns : World → Type 0
HookRuns w =
    (map.get w (hook_path (codes "post-commit")) ≡ None → post_commit (spot w) nothing ≡ gives tt (spot w) nothing)
    × (map.get w (hook_path (codes "post-commit")) ≡ Some [] → (post_commit (spot w) (one_child (ended Killed w))).end ≡ Goes tt)

-- A command that exits with 0 and leaves `a` changed stops the list.
abbrev pub ExecLeavesDirt : World → Type 0
ExecLeavesDirt w = head_found w ≡ Ok (id_of 33) → clean_at w (id_of 33) ≡ Err (IsChanged (codes "a"))
    → (exec_does false (codes "sed -i s/1/2/ a") (spot w) (one_child (ended (Code 0) w))).end ≡ Stops (stop_of (kind.ExecDirty (codes "a")))

-- ---- the list

abbrev pub noops : List Line
noops = Noop ∷ Break ∷ Noop ∷ []

-- A list of lines is read until one stops, which is done unless it is put back.
abbrev pub ReadsUntil : Setting → World → Type 0
ReadsUntil setting w = head_found w ≡ Ok (id_of 33)
    → (lines_do setting control noops 0 (spot w) nothing).end ≡ Stops (record { stop = stop_of kind.Break; done = 2 })

-- Where it stops, the lines before are done, and the others are left.
abbrev pub KeepsLines : Type 0
KeepsLines =
    ((kept_after control (Lines noops) (paused_after 1 (stop_of kind.Break)) (place_of control)).done ≡ Noop ∷ Break ∷ [])
    × ((kept_after control (Lines noops) (paused_after 1 (stop_of kind.Break)) (place_of control)).left ≡ Lines (Noop ∷ []))
    × ((kept_after control (Lines noops) (paused_after 1 (blocked reason.BadHead)) (place_of control)).left ≡ Lines (Break ∷ Noop ∷ []))

-- A todo whose second line is no command: none is done.
abbrev pub TodoIsBad : World → Type 0
TodoIsBad w = (todo_bad (Some (2, todo.Command)) (spot w) nothing).end ≡ Stops (record { stop = stop_of (kind.TodoBad 2 todo.Command); done = 0 })

-- Without a pair no hook is told of it.
abbrev pub NothingRewritten : World → Type 0
NothingRewritten w = rewritten_does [] (spot w) nothing ≡ gives tt (spot w) nothing

-- Of refs at the end one lies below another: nothing is written.
abbrev pub ends_at : Name → EndRef
ends_at name = update_ref (update_of name)

abbrev pub BelowAnother : World → Type 0
BelowAnother w = is_barred w (codes "refs/heads/a") ≡ false
    → all_writable (ends_at (codes "refs/heads/a") ∷ ends_at (codes "refs/heads/a/b") ∷ []) w
    ≡ Err (stop_of (kind.Blocked (reason.BadName (codes "refs/heads/a"))))

-- ---- continue and skip

abbrev pub going_at : Setting → Id → Going
going_at setting head = record { setting = setting; left = []; head = head; index = [] }

-- HEAD has moved past the commit that is pending: the user made it, and its line's commit waits to be paired.
abbrev pub MadeByUser : Setting → World → Type 0
MadeByUser setting w =
    (staged_refused true (id_of 50) control.pending None ≡ Ok tt)
    × ((continue_does (going_at setting (id_of 50)) control control.pending (spot w) nothing).spot.place.waiting ≡ id_of 34 ∷ [])

-- A conflict that is resolved to nothing goes, is made, or stops, as the option says; that of a merge or of a commit in HEAD's place is made.
abbrev pub resolved_as : Form → Empty → Doing (Unit {0})
resolved_as form empty =
    if_nothing_staged control.stop form empty (stop_empty control (pending_of false picked)) break_does

abbrev pub resolved : Empty → Doing (Unit {0})
resolved empty = resolved_as New empty

abbrev pub ResolvedToNothing : World → Type 0
ResolvedToNothing w =
    (end_of w (resolved empty.Drop) ≡ Goes tt)
    × (end_of w (resolved empty.Keep) ≡ Stops (stop_of kind.Break))
    × (end_of w (resolved empty.Stop) ≡ Stops (stop_with (kind.Empty (id_of 34)) true picked))
    × (end_of w (resolved_as Amend empty.Drop) ≡ Stops (stop_of kind.Break))
    × (end_of w (resolved_as (Merge (id_of 50)) empty.Drop) ≡ Stops (stop_of kind.Break))

-- A line that was put back is taken out by skip, and tried again by continue. One that was done is not there any more.
abbrev pub stopped_by : StopWord → Control
stopped_by word = record control { stop = word; pending = None }

abbrev pub TakesOut : Type 0
TakesOut =
    (lines_after Skip (stopped_by stop.Blocked) noops ≡ Break ∷ Noop ∷ [])
    × (lines_after Continue (stopped_by stop.Blocked) noops ≡ noops)
    × (lines_after Skip (stopped_by stop.Break) noops ≡ noops)
    × (lines_after Skip control noops ≡ noops)

-- A ref that no line names any more is forgotten, and no squash chain goes on past a commit that the user made.
abbrev pub in_chain : Control
in_chain = record control {
  done = UpdateRef (codes "refs/heads/a") ∷ [];
  updates = update_of (codes "refs/heads/a") ∷ update_of (codes "refs/heads/b") ∷ [];
  chain = (First, id_of 33) ∷ [];
}

abbrev pub TakesUp : Setting → Type 0
TakesUp setting =
    ((taken_up Continue (going_at setting (id_of 33)) in_chain).updates ≡ update_of (codes "refs/heads/a") ∷ [])
    × ((taken_up Continue (going_at setting (id_of 33)) in_chain).chain ≡ (First, id_of 33) ∷ [])
    × ((taken_up Continue (going_at setting (id_of 50)) in_chain).chain ≡ [])

-- ---- a start

-- The hook `pre-rebase` exits with 1: the start is refused.
abbrev pub StartIsRefused : World → Type 0
StartIsRefused w = map.get w (hook_path (codes "pre-rebase")) ≡ Some []
    → (pre_rebase_does (codes "main") (record { world = w; place = false }) (one_child (ended (Code 1) w))).end
    ≡ Stops (denied (Refused (refusal.HookRefused (Code 1))))

-- ---- a tape

abbrev pub goes : Env → World → Turn
goes env w = record { action = Resumes Continue; env = env; secs = pos 7; world = w }

-- What is seen in a turn is its own: two turns, of which the first has a child, and the second a moment.
abbrev pub TurnsApart : Env → World → Type 0
TurnsApart env w =
    calls (Begins (goes env w) ∷ Child (ended Killed w) ∷ Begins (goes env w) ∷ Moment (pos 8) ∷ [])
    ≡ record { turn = goes env w; coming = one_child (ended Killed w) }
    ∷ record { turn = goes env w; coming = record nothing { moments = pos 8 ∷ [] } } ∷ []

-- ---- files, a start, an abort

-- At a stop its commit is told in a file of its own, and nothing else is.
abbrev pub KeepsFiles : Type 0
KeepsFiles =
    (said_by None (state_files control) (codes ".git/rebase-merge/stopped-sha") ≡ Some (id_line (id_of 34)))
    × (said_by None (state_files control) (codes ".git/rebase-merge/stray") ≡ None)

-- Lines of a todo are counted with its comments; and one without a line is nothing to do.
abbrev pub CountsLines : World → Type 0
CountsLines w =
    (numbers 1 (codes "# one" ∷ codes "noop" ∷ [] ∷ codes "label x" ∷ []) ≡ 2 ∷ 4 ∷ [])
    × (first_bad w (2 ∷ 4 ∷ []) (Noop ∷ Label (codes "x") ∷ []) ≡ Some (4, todo.NotBuilt))
    × (kept_lines control [] (Ok []) ≡ Err (Refused refusal.NothingToDo))

-- HEAD's log tells of a start where HEAD went, and by which word.
abbrev pub plan : Planned
plan = record { control = control; onto_word = codes "main" }

abbrev pub StartIsTold : Setting → Type 0
StartIsTold setting = ((start_line setting plan).message ≡ codes "rebase (start): checkout main") × ((start_line setting plan).new ≡ id_of 33)

-- A rebase that is given up goes back to its branch, or to where HEAD was detached, and tells so.
abbrev pub topic : Name
topic = codes "refs/heads/topic"

abbrev pub GivesUp : Type 0
GivesUp =
    (head_before (Some topic) (id_of 17) ≡ Branch topic)
    × (name_before (Some topic) (id_of 17) ≡ topic)
    × (head_before None (id_of 17) ≡ Detached (id_of 17))

-- A turn that finds no repository, say, is denied, whatever it is to go on with.
abbrev pub IsDenied : Checks → Turn → Again → Control → Denial → Type 0
IsDenied checks turn again k denial = opened_at checks turn.world ≡ Err denial → verdict_of (resumes_in checks again turn k) ≡ Denied denial
