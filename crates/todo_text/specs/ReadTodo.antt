-- A todo is read line by line.
use Rattle.std.specs.Prelude.{◌≡◌, ℕ, ◌+◌, Bool, not, ◌||◌, ◌++◌, if◌then◌else◌, List, [], ◌∷◌, Result, Ok, Err}
use Rattle.todo_text.specs.declared.line.Line.{Line}
use Rattle.todo_text.specs.declared.todo_kind.TodoKind.{TodoKind}
use Rattle.todo_text.specs.declared.todo_kind.TodoKind.TheVariants as fault
use Rattle.todo_text.specs.declared.fault.TodoFault.{TodoFault}
use Rattle.todo_text.specs.declared.fault.TodoFault.TheVariants.{Bad, Memory}
use Rattle.todo_text.specs.ReadLine.{line_of}
use Rattle.todo_text.specs.Todos.{is_comment, counts, may_stand}

-- the line in its place
abbrev pub placed : Bool → Result Line TodoKind → Result Line TodoKind
placed earlier (Ok line) = if not (may_stand earlier line) then Err fault.NoEarlier else Ok line
placed earlier (Err kind) = Err kind

unfoldable pub line_in : Bool → List ℕ → Result Line TodoKind
line_in earlier text = placed earlier (line_of text)

abbrev pub LineGives : ℕ → Result Line TodoFault → Result Line TodoKind → Type 0
LineGives number (Ok line) means = means ≡ Ok line
LineGives number (Err (Bad at kind)) means = (means ≡ Err kind) × (at ≡ number)
LineGives number (Err Memory) means = Unit {0}

-- these lines first
abbrev pub led_by : List Line → Result (List Line) TodoFault → Result (List Line) TodoFault
led_by first (Ok ls) = Ok (first ++ ls)
led_by first (Err fault) = Err fault

abbrev pub begun_by : ℕ → Result Line TodoKind → (Line → Result (List Line) TodoFault) → Result (List Line) TodoFault
begun_by number (Ok line) rest = led_by (line ∷ []) (rest line)
begun_by number (Err kind) rest = Err (Bad number kind)

-- the lines of texts, of which the first has this number
unfoldable pub todo_of : Bool → ℕ → List (List ℕ) → Result (List Line) TodoFault
todo_of earlier number [] = Ok []
todo_of earlier number (text ∷ texts) =
    if is_comment text then todo_of earlier (number + 1) texts
    else begun_by number (line_in earlier text) (λ line. todo_of (earlier || counts line) (number + 1) texts)

abbrev pub TodoGives : Result (List Line) TodoFault → Result (List Line) TodoFault → Type 0
TodoGives (Ok ls) means = means ≡ Ok ls
TodoGives (Err (Bad number kind)) means = means ≡ Err (Bad number kind)
TodoGives (Err Memory) means = Unit {0}
