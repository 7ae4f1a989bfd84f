-- The rows, computed.
use Rattle.std.proofs.Common.{refl}
use Rattle.seq_base.specs.World.{World}
use Rattle.seq_model.specs.Basis.{unmerged}
use Rattle.seq_outside.specs.declared.env.Env.{Env}
use Rattle.stage_index.specs.Changes.{first_difference}
use Rattle.worktree.specs.Switches.{unobstructed}
use Rattle.child_steps.specs.Children.{asked, child_does, has_hook, hook_asked}
use Rattle.reading.specs.Beginning.{pre_rebase_does}
use Rattle.reading.specs.Ending.{all_writable, none_moved}
use Rattle.line_steps.specs.Finding.{may_stand}
use Rattle.line_steps.specs.Hooks.{has_hook as is_there, hook_does, hook_ends, job_does}
use Rattle.line_steps.specs.declared.setting.Setting.{Setting}
use Rattle.reading.specs.Opening.{Checks}
use Rattle.line_steps.specs.Lines.{break_does, exec_does, exec_looks, exec_takes}
use Rattle.line_steps.specs.Picks.{conflict_does}
use Rattle.reading.specs.Resuming.{may_continue, resumes}
use Rattle.reading.specs.Rows.{BecomesEmpty, Breaks, Conflicts, DriverBreaks, ExecFails, ExecLeavesDirt, Forwards, HookRuns, InTheWay}
use Rattle.reading.specs.Rows.{BelowAnother, BranchMoved, FailedWords, KeepsLines, NothingRewritten, Pairs, ReadsUntil, TodoIsBad}
use Rattle.seq_model.specs.declared.denial.Denial.{Denial}
use Rattle.state_text.specs.States.{state_files}
use Rattle.state_text.specs.Texts.{text_in}
use Rattle.state_text.specs.declared.control.Control.{Control}
use Rattle.reading.specs.Rows.{CountsLines, GivesUp, IsDenied, KeepsFiles, StartIsTold}
use Rattle.reading.specs.Tapes.{Again, Turn}
use Rattle.reading.specs.Rows.{MadeByUser, ResolvedToNothing, StagedPast, StartIsRefused, TakesOut, TakesUp, TurnsApart, Unresolved}
use Rattle.line_steps.specs.Steps.{line_does}
use Rattle.reading.specs.Stages.{before_line_does, head_does, line_goes, lines_do, look_does}
use Rattle.line_steps.specs.Writing.{switched_with}

-- ---- lines

pub breaks : (w : World) → Breaks w
unfolding break_does
breaks w = refl

pub forwards : Forwards
forwards = (refl, refl, refl)

pub conflicts : (w v : World) → Conflicts w v
unfolding conflict_does
conflicts w v is = rw is refl

pub in_the_way : (w : World) → InTheWay w
unfolding switched_with may_stand unobstructed
in_the_way w is = (rw is refl, refl, refl)

pub driver_breaks : (setting : Setting) (w : World) → DriverBreaks setting w
driver_breaks setting w = (refl, refl)

pub becomes_empty : (w : World) → BecomesEmpty w
unfolding break_does first_difference
becomes_empty w = (refl, refl, refl, refl)

pub exec_fails : (w : World) → ExecFails w
unfolding exec_does job_does
exec_fails w again = refl

pub exec_leaves_dirt : (w : World) → ExecLeavesDirt w
unfolding exec_does exec_looks exec_takes job_does
exec_leaves_dirt w head clean = rw (head, clean) refl

pub hook_runs : (w : World) → HookRuns w
unfolding hook_does hook_ends job_does is_there
hook_runs w = (λ none. rw none refl, λ some. rw some refl)

-- ---- the list

pub reads_until : (setting : Setting) (w : World) → ReadsUntil setting w
unfolding lines_do line_goes before_line_does head_does look_does line_does break_does
reads_until setting w head = rw (head, head) refl

pub keeps_lines : KeepsLines
keeps_lines = (refl, refl, refl)

pub failed_words : FailedWords
failed_words = (refl, refl)

pub todo_is_bad : (w : World) → TodoIsBad w
todo_is_bad w = refl

pub pairs : Pairs
pairs = refl

pub nothing_rewritten : (w : World) → NothingRewritten w
nothing_rewritten w = refl

pub branch_moved : (w : World) → BranchMoved w
unfolding none_moved
branch_moved w is = rw (is, is) refl

pub below_another : (w : World) → BelowAnother w
unfolding all_writable
below_another w is = rw is refl

-- ---- turns

pub start_is_refused : (w : World) → StartIsRefused w
unfolding pre_rebase_does hook_asked has_hook asked child_does
start_is_refused w there = rw there refl

pub turns_apart : (env : Env) (w : World) → TurnsApart env w
turns_apart env w = refl

pub unresolved : (w : World) → Unresolved w
unfolding may_continue unmerged
unresolved w = refl

pub staged_past : StagedPast
staged_past = refl

pub made_by_user : (setting : Setting) (w : World) → MadeByUser setting w
made_by_user setting w = (refl, refl)

pub resolved_to_nothing : (w : World) → ResolvedToNothing w
unfolding break_does
resolved_to_nothing w = (refl, refl, refl, refl, refl)

pub takes_out : TakesOut
takes_out = (refl, refl, refl, refl)

pub takes_up : (setting : Setting) → TakesUp setting
takes_up setting = (refl, refl, refl)

-- ---- files, a start, an abort

pub keeps_files : KeepsFiles
unfolding state_files text_in
keeps_files = (refl, refl)

pub counts_lines : (w : World) → CountsLines w
counts_lines w = (refl, refl, refl)

pub start_is_told : (setting : Setting) → StartIsTold setting
start_is_told setting = (refl, refl)

pub gives_up : GivesUp
gives_up = (refl, refl, refl)

pub is_denied : (checks : Checks) (turn : Turn) (again : Again) (k : Control) (denial : Denial) → IsDenied checks turn again k denial
unfolding resumes
is_denied checks turn again k denial is = rw is refl
