-- Whether a rebase begins: its checks, with the children that belong to them (git-rebase(1), "-i"; githooks(5), "pre-rebase").
use Rattle.std.specs.Prelude.{Bool, false, if◌then◌else◌, List, [], ◌∷◌, codes, Option, Some, None, Ok}
use Rattle.child_jobs.specs.Jobs.{editor_of}
use Rattle.child_steps.specs.Children.{asked, hook_asked}
use Rattle.child_steps.specs.declared.child.ChildEnd.{ChildEnd}
use Rattle.seq_base.specs.Words.{Text}
use Rattle.seq_base.specs.World.{World}
use Rattle.seq_model.specs.declared.command.StartWords.{StartWords}
use Rattle.seq_model.specs.declared.denial.Denial.{Denial}
use Rattle.seq_model.specs.declared.denial.Denial.TheVariants.{Refused}
use Rattle.seq_model.specs.declared.refusal.Refusal.{Refusal}
use Rattle.seq_model.specs.declared.refusal.Refusal.TheVariants.{EditorFailed, HookRefused}
use Rattle.seq_outside.specs.Doing.{◌>>=◌, Does, End, Goes, Starves, Step, Stops, gives, looks, makes, place, saying}
use Rattle.seq_outside.specs.Tape.{Ask, Coming}
use Rattle.seq_outside.specs.declared.child.Exit.{Exit}
use Rattle.seq_outside.specs.declared.env.Env.{Env}
use Rattle.line_steps.specs.Places.{reads}
use Rattle.reading.specs.Looking.{may_begin, unchanged}
use Rattle.reading.specs.Opening.{Checked, Checks}
use Rattle.reading.specs.Starting.{Planned, Start}
use Rattle.reading.specs.State.{todo_hidden, todo_path, todo_shown}
use Rattle.reading.specs.Todos.{todo_in, todo_kept}
use Rattle.state_text.specs.declared.control.Control.{Control}
pub use Rattle.reading.specs.declared.not_begun.NotBegun.{NotBegun}

-- at its place such a step tells whether a child has run
abbrev pub Checking : Type 0 → Type 0
Checking X = Does Bool NotBegun X

abbrev pub denied : Denial → NotBegun
denied why = record { why = why; failed = false }

abbrev pub refused_by : (Exit → Refusal) → ChildEnd → NotBegun
refused_by refusal child = record { why = Refused (refusal child.exit); failed = child.failed }

unfoldable pub pre_rebase_does : Text → Checking (Unit {0})
pre_rebase_does upstream = saying (refused_by HookRefused) (hook_asked (codes "pre-rebase") (upstream ∷ []))

-- HEAD, index and files are as they were, where a child has run
unfoldable pub still_does : Control → Checking (Unit {0})
still_does k = do
  ran ← place
  if ran then reads denied (unchanged k) else gives tt

-- what a child may have changed is looked at again, and then what is in the way
unfoldable pub looks_again : Control → Text → Checking Planned
looks_again k onto_word = do
  _ ← still_does k
  _ ← reads denied (may_begin k)
  gives (record { control = k; onto_word = onto_word })

-- the todo is read
unfoldable pub planned_does : Checked → Text → Checking Planned
planned_does checked todo = do
  k ← reads denied (todo_kept checked.control todo)
  looks_again k checked.onto_word

-- ---- the todo's editor

abbrev pub end_hidden : {X : Type 0} → End NotBegun X → Step Bool NotBegun X → Step Bool NotBegun X
end_hidden (Goes x) step = step
end_hidden (Stops why) step = record step { spot = record { world = todo_hidden step.spot.world; place = step.spot.place } }
end_hidden Starves step = step

-- where it stops, the todo is taken away again
abbrev pub or_hidden : {X : Type 0} → Checking X → Checking X
or_hidden step spot coming = let first = step spot coming in end_hidden first.end first

abbrev pub shows : Text → Checking (Unit {0})
shows todo = makes (λ w. (Ok tt, todo_shown todo w))

-- the todo as it is found
unfoldable pub found_does : Checked → Checking Planned
found_does checked = do
  todo ← looks (λ w. Ok (todo_in w))
  planned_does checked todo

-- the todo is shown to its editor, and taken as that left it
unfoldable pub edited_does : Checked → Text → Checking Planned
edited_does checked editor = do
  _ ← shows checked.control.backup
  _ ← saying (refused_by EditorFailed) (asked (editor_of editor todo_path))
  found_does checked

abbrev pub planned_by : Checked → Option Text → Checking Planned
planned_by checked None = planned_does checked checked.control.backup
planned_by checked (Some editor) = or_hidden (edited_does checked editor)

-- a start that was checked, with its own children
unfoldable pub children_do : Checked → Checking Planned
children_do checked = do
  _ ← pre_rebase_does checked.upstream
  planned_by checked checked.editor

-- The checks of a start, in their order, with its own children.
unfoldable pub begin_does : Checks → StartWords → Env → Checking Planned
begin_does checks words env = do
  checked ← reads denied (checks.checked_in words env)
  children_do checked

-- ---- the verdict

-- A start is denied, after what its children did; it is begun, with what is still to come; or an event is missing.
pub data Verdict : Type 0 where
  Denied : NotBegun → World → List (List Ask) → Verdict
  Begun : Start → Coming → List (List Ask) → Verdict
  Starved : Verdict

abbrev pub verdict_of : End NotBegun Planned → World → Coming → List (List Ask) → Verdict
verdict_of (Goes plan) w coming asked = Begun (record { world = w; plan = plan }) coming asked
verdict_of (Stops why) w coming asked = Denied why w asked
verdict_of Starves w coming asked = Starved

abbrev pub verdict_by : Step Bool NotBegun Planned → Verdict
verdict_by step = verdict_of step.end step.spot.world step.coming (step.asked [])

-- what a start comes to, in the world that it finds
unfoldable pub begins : Checks → StartWords → Env → World → Coming → Verdict
begins checks words env w coming = verdict_by (begin_does checks words env (record { world = w; place = false }) coming)
