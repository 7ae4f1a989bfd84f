-- Whether a stopped list is gone on with, as it is found (git-rebase(1), "--continue" and "--skip").
use Rattle.std.specs.Prelude.{ℤ, Bool, true, false, not, ◌||◌, if◌then◌else◌, List, [], ◌++◌, drop, filter, is_none, Option, Some, None, Result, Ok, Err}
use Rattle.std.specs.List.{list_any}
use Rattle.std.specs.Str.{bytes_eq}
use Rattle.index_file.specs.declared.entry.IndexEntry.{IndexEntry}
use Rattle.message_text.specs.declared.chain.ChainKind.{ChainKind}
use Rattle.path_trees.specs.Named.{commit_map}
use Rattle.seq_base.specs.Words.{Id, Name, Path}
use Rattle.seq_base.specs.World.{World}
use Rattle.seq_model.specs.Basis.{unmerged}
use Rattle.seq_model.specs.Refusing.{denied_file, or_refuse, refuse_found}
use Rattle.seq_model.specs.declared.denial.Denial.{Denial}
use Rattle.seq_model.specs.declared.denial.Denial.TheVariants.{Refused}
use Rattle.seq_model.specs.declared.refusal.Refusal.TheVariants as refusal
use Rattle.seq_outside.specs.Halts.{◌>>=◌, for_reason}
use Rattle.seq_outside.specs.declared.env.Env.{Env}
use Rattle.stage_index.specs.Changes.{changed, staged}
use Rattle.worktree.specs.Resets.{rows_readable}
use Rattle.todo_text.specs.declared.line.Line.{Line}
use Rattle.todo_text.specs.declared.line.Line.TheVariants.{UpdateRef}
use Rattle.state_text.specs.declared.control.Control.{Control}
use Rattle.state_text.specs.declared.control.Form.TheVariants.{Amend, Merge, New}
use Rattle.state_text.specs.declared.control.Form.{Form}
use Rattle.state_text.specs.declared.control.Pending.{Pending}
use Rattle.state_text.specs.declared.control.RefUpdate.{RefUpdate}
use Rattle.state_text.specs.declared.stop_word.StopWord.{StopWord}
use Rattle.state_text.specs.declared.stop_word.StopWord.TheVariants as stop
use Rattle.line_steps.specs.declared.setting.Setting.{Setting}
use Rattle.line_steps.specs.Finding.{map_held}
use Rattle.reading.specs.Opening.{Checks, Opened, opened_at}
use Rattle.reading.specs.Tapes.{Again, Continue, Skip}
use Rattle.reading.specs.Todos.{todo_read}
pub use Rattle.reading.specs.declared.going.Going.{Going}

-- ---- continue

-- HEAD is another commit than the one that the list stopped at
abbrev pub has_moved : Control → Id → Bool
has_moved k head = not (bytes_eq k.stopped_head head)

abbrev pub is_amend : Form → Bool
is_amend New = false
is_amend Amend = true
is_amend (Merge other) = false

-- what is staged is looked at, unless it is what a pending commit is made of
abbrev pub asks_staged : Bool → Option Pending → Bool
asks_staged moved None = true
asks_staged moved (Some pending) = moved || is_amend pending.form

-- nothing may be staged where no commit is pending, and where HEAD has moved past the one that is
abbrev pub staged_refused : Bool → Id → Option Pending → Option Path → Result (Unit {0}) Denial
staged_refused moved head pending None = Ok tt
staged_refused moved head None (Some path) = Err (Refused (refusal.Staged path))
staged_refused moved head (Some pending) (Some path) = if moved then Err (Refused (refusal.HeadMoved (Some head))) else Ok tt

unfoldable pub staged_known : Control → Id → List IndexEntry → World → Result (Unit {0}) Denial
staged_known k head index w = do
  ours ← for_reason denied_file (commit_map w head)
  staged_refused (has_moved k head) head k.pending (staged index ours)

-- all conflicts are resolved, all files are added, and what is staged belongs to the pending commit
unfoldable pub may_continue : Control → Id → List IndexEntry → World → Result (Unit {0}) Denial
may_continue k head index w = do
  _ ← refuse_found (unmerged index) refusal.Unmerged
  _ ← refuse_found (changed w index) refusal.Unstaged
  if asks_staged (has_moved k head) k.pending then staged_known k head index w else Ok tt

-- ---- skip

-- index and files are reset where a line stopped, and not where the todo did not read or a ref had moved
abbrev pub resets_at : StopWord → Bool
resets_at stop.TodoBad = false
resets_at stop.RefMoved = false
resets_at _ = true

-- the line that stopped was put back
abbrev pub was_put_back : Control → StopWord → Bool
was_put_back k stop.ExecFailed = k.options.reschedule
was_put_back k stop.DriverBroken = true
was_put_back k stop.Blocked = is_none k.pending
was_put_back k _ = false

-- index and files can be reset
unfoldable pub may_reset : Id → World → Result (Unit {0}) Denial
may_reset head w = do
  ours ← for_reason denied_file (map_held head w)
  for_reason denied_file (rows_readable w ours)

abbrev pub may_go : Again → Control → Id → List IndexEntry → World → Result (Unit {0}) Denial
may_go Continue k head index w = may_continue k head index w
may_go Skip k head index w = if resets_at k.stop then may_reset head w else Ok tt

-- ---- both

abbrev pub lines_after : Again → Control → List Line → List Line
lines_after Continue k lines = lines
lines_after Skip k lines = if was_put_back k k.stop then drop 1 lines else lines

-- a ref that is to be updated is forgotten where no line names it any more
abbrev pub updates : Name → Line → Bool
updates name (UpdateRef other) = bytes_eq other name
updates name _ = false

abbrev pub updates_named : List Line → List RefUpdate → List RefUpdate
updates_named lines us = filter (λ (u : RefUpdate). list_any (updates u.name) lines) us

-- no squash chain goes on past a commit that the user made
abbrev pub chain_kept : Again → Bool → Option Pending → List (ChainKind × Id) → List (ChainKind × Id)
chain_kept Continue true (Some pending) chain = []
chain_kept _ _ _ chain = chain

-- the control with which a turn goes on
abbrev pub taken_up : Again → Going → Control → Control
taken_up again going k = record k {
  updates = updates_named (k.done ++ going.left) k.updates;
  chain = chain_kept again (has_moved k going.head) k.pending k.chain;
}

-- HEAD is at this commit, and the turn is given this
unfoldable pub resumes_at : Again → Control → List Line → List IndexEntry → Id → Setting → World → Result Going Denial
resumes_at again k lines index head setting w = do
  _ ← may_go again k head index w
  Ok (record { setting = setting; left = lines_after again k lines; head = head; index = index })

-- these are its lines
unfoldable pub resumes_with : Checks → Again → Env → ℤ → Control → Opened → List Line → World → Result Going Denial
resumes_with checks again env secs k opened lines w = do
  head ← or_refuse opened.head refusal.UnbornHead
  committer ← checks.committer_in env.vars opened.config
  resumes_at again k lines opened.index head (record { env = env; secs = secs; config = opened.config; committer = committer }) w

-- The list is gone on with, or it is denied. A turn that is denied changes nothing.
unfoldable pub resumes : Checks → Again → Env → ℤ → Control → World → Result Going Denial
resumes checks again env secs k w = do
  opened ← opened_at checks w
  lines ← todo_read k w
  resumes_with checks again env secs k opened lines w
