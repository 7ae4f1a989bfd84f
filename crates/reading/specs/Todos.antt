-- What the todo of a list reads as, once each of its lines is judged (git-rebase(1), "INTERACTIVE MODE").
use Rattle.std.specs.Prelude.{ℕ, ◌+◌, Bool, true, false, nat_lt, if◌then◌else◌, List, [], ◌∷◌, length}
use Rattle.std.specs.Prelude.{option_map, unwrap_or, Option, Some, None, Result, Ok, Err}
use Rattle.std.specs.FinMap as map
use Rattle.std.specs.Option.{option_or}
use Rattle.std.specs.Str.Lines.{lines as text_lines}
use Rattle.objects.specs.Named.{commit_named}
use Rattle.rev_names.specs.Revs.{rev_at}
use Rattle.seq_base.specs.Words.{Id, Text}
use Rattle.seq_base.specs.World.{World}
use Rattle.seq_model.specs.declared.denial.Denial.{Denial}
use Rattle.seq_model.specs.declared.denial.Denial.TheVariants.{Limit, Refused}
use Rattle.seq_model.specs.declared.refusal.Refusal.TheVariants.{NothingToDo, TodoBad}
use Rattle.seq_outside.specs.Halts.{◌>>=◌, for_reason, stop_found, stop_if}
use Rattle.seq_outside.specs.declared.limit.LimitWhat.TheVariants.{TodoBytes, TodoLines}
use Rattle.state_text.specs.declared.control.Control.{Control}
use Rattle.state_text.specs.declared.control.Left.TheVariants.{Lines, Raw}
use Rattle.todo_text.specs.ReadTodo.{todo_of}
use Rattle.todo_text.specs.Todos.{is_comment}
use Rattle.todo_text.specs.declared.fault.TodoFault.{TodoFault}
use Rattle.todo_text.specs.declared.fault.TodoFault.TheVariants.{Bad, Memory}
use Rattle.todo_text.specs.declared.line.Line.{Line}
use Rattle.todo_text.specs.declared.line.Line.TheVariants.{Break, Exec, Label, Merge, Noop, Pick, Reset, UpdateRef}
use Rattle.todo_text.specs.declared.line.PickKind.{PickKind}
use Rattle.todo_text.specs.declared.line.PickKind.TheVariants as pick
use Rattle.todo_text.specs.declared.todo_kind.TodoKind.{TodoKind}
use Rattle.todo_text.specs.declared.todo_kind.TodoKind.TheVariants as kind
use Rattle.reading.specs.State.{todo_path}

-- ---- a line

-- whatever is at fault, it is no commit
abbrev pub no_fault : {E : Type 0} → E → Unit {0}
no_fault fault = tt

-- the parents of the commit that a name names
unfoldable pub parents_named : Text → World → Result (List Id) (Unit {0})
parents_named rev w = do
  id ← for_reason no_fault (rev_at w rev)
  commit ← for_reason no_fault (commit_named w id)
  Ok commit.parents

-- a merge is none to pick, and may be dropped
abbrev pub parents_fault : Bool → Result (List Id) (Unit {0}) → Option TodoKind
parents_fault picked (Err x) = Some kind.NoSuchCommit
parents_fault picked (Ok []) = None
parents_fault picked (Ok (parent ∷ [])) = None
parents_fault picked (Ok (parent ∷ other ∷ parents)) = if picked then Some kind.MergePicked else None

abbrev pub commit_fault : World → PickKind → Text → Option TodoKind
commit_fault w pick.Pick rev = parents_fault true (parents_named rev w)
commit_fault w pick.Drop rev = parents_fault false (parents_named rev w)
commit_fault w pick.Reword rev = Some kind.NotBuilt
commit_fault w pick.Edit rev = Some kind.NotBuilt
commit_fault w pick.Squash rev = Some kind.NotBuilt
commit_fault w pick.Fixup rev = Some kind.NotBuilt
commit_fault w pick.FixupKeep rev = Some kind.NotBuilt
commit_fault w pick.FixupEdit rev = Some kind.NotBuilt
commit_fault w pick.Revert rev = Some kind.Command

-- why a line that reads is bad
abbrev pub line_fault : World → Line → Option TodoKind
line_fault w (Pick which rev note) = commit_fault w which rev
line_fault w (Exec command) = None
line_fault w Break = None
line_fault w Noop = None
line_fault w (Label name) = Some kind.NotBuilt
line_fault w (Reset name note) = Some kind.NotBuilt
line_fault w (Merge how head note) = Some kind.NotBuilt
line_fault w (UpdateRef name) = Some kind.NotBuilt

-- ---- a todo

-- where a todo has its lines, comments and empty lines counted
abbrev pub numbers : ℕ → List Text → List ℕ
numbers n [] = []
numbers n (text ∷ texts) = if is_comment text then numbers (n + 1) texts else n ∷ numbers (n + 1) texts

-- the first bad line, and what is wrong with it
abbrev pub first_bad : World → List ℕ → List Line → Option (ℕ × TodoKind)
first_bad w [] lines = None
first_bad w (n ∷ ns) [] = None
first_bad w (n ∷ ns) (line ∷ lines) = option_or (option_map (λ why. (n, why)) (line_fault w line)) (first_bad w ns lines)

-- (no definition runs out of memory)
abbrev pub bad_line : TodoFault → ℕ × TodoKind
bad_line (Bad number why) = (number, why)
bad_line Memory = (0, kind.Command)

-- the lines of a todo, before which there is a line that is done or not; or its first bad line
unfoldable pub todo_lines : World → Bool → Text → Result (List Line) (ℕ × TodoKind)
todo_lines w earlier todo = do
  lines ← for_reason bad_line (todo_of earlier 1 (text_lines todo))
  _ ← stop_found (first_bad w (numbers 1 (text_lines todo)) lines) (λ at. at)
  Ok lines

-- its first bad line, if it has one
abbrev pub fault_of : Result (List Line) (ℕ × TodoKind) → Option (ℕ × TodoKind)
fault_of (Ok lines) = None
fault_of (Err at) = Some at

-- ---- limits

abbrev pub most_lines : ℕ
most_lines = 100000

abbrev pub most_bytes : ℕ
most_bytes = 16777216

-- a todo is not too long
unfoldable pub may_read : Text → Result (Unit {0}) Denial
may_read todo = do
  _ ← stop_if (nat_lt most_lines (length (text_lines todo))) (Limit TodoLines (length (text_lines todo)))
  stop_if (nat_lt most_bytes (length todo)) (Limit TodoBytes (length todo))

-- ---- at a start, and later

abbrev pub kept_lines : Control → Text → Result (List Line) (ℕ × TodoKind) → Result Control Denial
kept_lines k todo (Ok []) = Err (Refused NothingToDo)
kept_lines k todo (Ok (line ∷ lines)) = Ok (record k { left = Lines (line ∷ lines) })
kept_lines k todo (Err at) = Ok (record k { left = Raw todo })

-- the control of a start, with the lines of this todo; one that does not read is kept as it is
unfoldable pub todo_kept : Control → Text → World → Result Control Denial
todo_kept k todo w = do
  _ ← may_read todo
  kept_lines k todo (todo_lines w false todo)

-- the todo as it stands in its file; one that is gone is empty
abbrev pub todo_in : World → Text
todo_in w = unwrap_or (map.get w todo_path) []

abbrev pub has_lines : List Line → Bool
has_lines [] = false
has_lines (line ∷ lines) = true

abbrev pub denied_todo : ℕ × TodoKind → Denial
denied_todo at = Refused (TodoBad at.0 at.1)

-- the lines that are left of a list, as its todo is found
unfoldable pub todo_read : Control → World → Result (List Line) Denial
todo_read k w = do
  _ ← may_read (todo_in w)
  for_reason denied_todo (todo_lines w (has_lines k.done) (todo_in w))
