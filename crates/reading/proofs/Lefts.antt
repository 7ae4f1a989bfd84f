-- The lines that a control kept do not matter: a turn reads them from the todo as it is found.
use Rattle.std.proofs.Common.{◌≡◌, ℕ, ℤ, ◌+◌, List, [], ◌∷◌, Option, Some, None, Result, Ok, Err, refl}
use Rattle.seq_base.specs.World.{World}
use Rattle.seq_model.specs.declared.denial.Denial.{Denial}
use Rattle.seq_outside.specs.Tape.{Coming}
use Rattle.seq_outside.specs.declared.env.Env.{Env}
use Rattle.todo_text.specs.declared.line.Line.{Line}
use Rattle.seq_base.specs.Words.{Id}
use Rattle.state_text.specs.declared.control.Control.{Control}
use Rattle.state_text.specs.declared.control.Left.{Left}
use Rattle.state_text.specs.declared.control.Pending.{Pending}
use Rattle.reading.specs.Ending.{all_ended, end_written}
use Rattle.reading.specs.Going.{commit_pending, continue_does, continued_does, goes_on, pending_does, pending_map_does, pending_tree_does, resume_does, resume_from}
use Rattle.line_steps.specs.Finding.{Found}
use Rattle.line_steps.specs.Layers.{Made}
use Rattle.line_steps.specs.declared.setting.Setting.{Setting}
use Rattle.reading.specs.Opening.{Checks}
use Rattle.reading.specs.Readings.{gone_on, resumed, resumes_in}
use Rattle.reading.specs.Resuming.{Going, may_continue, resumes, resumes_at, resumes_with, staged_known, taken_up}
use Rattle.reading.specs.Stages.{end_at, end_does, lines_do}
use Rattle.reading.specs.Standing.{with_left}
use Rattle.reading.specs.State.{begun}
use Rattle.reading.specs.Tapes.{Again, Continue, Skip, Turn}
use Rattle.reading.specs.Todos.{todo_read}

module _ (left : Left) (k : Control) where
  lines-same : (setting : Setting) (lines : List Line) (n : ℕ) → lines_do setting (with_left left k) lines n ≡ lines_do setting k lines n
  unfolding lines_do end_does end_at all_ended end_written
  lines-same setting [] n = refl
  lines-same setting (line ∷ lines) n = rw (lines-same setting lines (n + 1)) refl

  continued-same : (pending : Pending) (head : Id) (made : Made)
      → continued_does (with_left left k) pending head made ≡ continued_does k pending head made
  unfolding continued_does
  continued-same pending head made = refl

  pending-same : (setting : Setting) (pending : Pending) (head : Id) (found : Found)
      → pending_does setting (with_left left k) pending head found ≡ pending_does setting k pending head found
  unfolding pending_does pending_map_does pending_tree_does continued_does
  pending-same setting pending head found = refl

  commit-same : (setting : Setting) (pending : Pending) (head : Id)
      → commit_pending setting (with_left left k) pending head ≡ commit_pending setting k pending head
  unfolding commit_pending pending_does pending_map_does pending_tree_does continued_does
  commit-same setting pending head = refl

  continue-same : (going : Going) (pending : Option Pending) → continue_does going (with_left left k) pending ≡ continue_does going k pending
  continue-same going None = refl
  continue-same going (Some pending) = rw (commit-same going.setting pending going.head) refl

  resume-same : (again : Again) (going : Going) → resume_does again going (with_left left k) ≡ resume_does again going k
  unfolding resume_does resume_from begun
  resume-same Continue going = rw (continue-same going k.pending) refl
  resume-same Skip going = refl

  goes-same : (again : Again) (going : Going) → goes_on again going (with_left left k) ≡ goes_on again going k
  unfolding goes_on
  goes-same again going = rw (resume-same again going, lines-same going.setting going.left 0) refl

module _ (left : Left) (k : Control) where
  gone-same : (again : Again) (w : World) (coming : Coming) (going : Result Going Denial)
      → gone_on again (with_left left k) w coming going ≡ gone_on again k w coming going
  gone-same again w coming (Ok going) = rw (goes-same left (taken_up again going k) again going) refl
  gone-same again w coming (Err denial) = refl

  module _ (checks : Checks) where
    all-same : (again : Again) (env : Env) (secs : ℤ) (w : World)
        → resumes checks again env secs (with_left left k) w ≡ resumes checks again env secs k w
    unfolding resumes resumes_with resumes_at may_continue staged_known todo_read
    all-same Continue env secs w = refl
    all-same Skip env secs w = refl

    pub resumes-same : (again : Again) (turn : Turn) → resumes_in checks again turn (with_left left k) ≡ resumes_in checks again turn k
    resumes-same again turn = all-same again turn.env turn.secs turn.world

    pub resumed-same : (again : Again) (turn : Turn) (coming : Coming)
        → resumed checks again turn (with_left left k) coming ≡ resumed checks again turn k coming
    unfolding resumed
    resumed-same again turn coming =
        rw (resumes-same again turn) (gone-same again turn.world coming (resumes_in checks again turn k))
