-- What a reader gives is what its definition says, want of memory aside.
use Rattle.std.specs.Prelude.{◌≡◌, ℕ, List, Result, Ok, Err}
use Rattle.std.specs.Borrow.{Bor}
use Rattle.todo_text.specs.declared.line.Line.{Line}
use Rattle.todo_text.specs.declared.todo_kind.TodoKind.{TodoKind}
use Rattle.todo_text.specs.declared.fault.LineFault.{LineFault}
use Rattle.todo_text.specs.declared.fault.LineFault.TheVariants.{Bad, Memory}

abbrev pub Fails : {X : Type 0} → LineFault → Result X TodoKind → Type 0
Fails (Bad kind) means = means ≡ Err kind
Fails Memory means = Unit {0}

abbrev pub Gives : Result Line LineFault → Result Line TodoKind → Type 0
Gives (Ok line) means = means ≡ Ok line
Gives (Err fault) means = Fails fault means

abbrev pub WordGives : Result (Bor (List ℕ)) LineFault → Result (List ℕ) TodoKind → Type 0
WordGives (Ok word) means = means ≡ Ok word.now
WordGives (Err fault) means = Fails fault means
