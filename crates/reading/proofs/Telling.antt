-- What the files of a list tell is told by these alone.
use Rattle.std.proofs.Common.{◌≡◌, ◌∙◌, ℕ, ◌+◌, cond, Bool, true, false, List, [], ◌∷◌, Some, None, Result, Ok, Err, refl, ap}
use Rattle.std.specs.Prelude.{◌&&◌, ◌||◌, not, unwrap_or}
use Rattle.std.specs.FinMap as map
use Rattle.std.specs.List.{AllByRecursion, list_all}
use Rattle.std.specs.Str.{bytes_eq}
use Rattle.std.proofs.lemmas.Bool.{and_parts}
use Rattle.std.specs.Str.Lines.{lines as text_lines}
use Rattle.seq_base.specs.StatePaths.{is_state_path}
use Rattle.seq_base.specs.Words.{Path, Text}
use Rattle.seq_base.specs.World.{World, is_below}
use Rattle.state_found.proofs.FileLaws.{of_one}
use Rattle.state_found.proofs.FolderLaws.{not_below, nothing_below, some_below}
use Rattle.state_found.proofs.JudgeLaws.{all_of, among}
use Rattle.state_found.specs.Found.{IsFolderRead, IsLeftBehind, IsLeftOf, IsPaused, asked_files, has_files, has_lines}
use Rattle.state_text.specs.Places.{folder_of, in_step_path, state_path}
use Rattle.state_text.specs.Texts.{id_line, text_in}
use Rattle.state_text.specs.declared.control.Control.{Control}
use Rattle.state_text.specs.declared.control.Left.TheVariants.{Lines, Raw}
use Rattle.state_text.specs.declared.control.Left.{Left}
use Rattle.state_text.specs.declared.state_file.StateFile.TheVariants as file
use Rattle.state_text.specs.declared.state_file.StateFile.{StateFile}
use Rattle.state_text.specs.declared.verb.Verb.TheVariants.{CherryPick, Rebase, Revert}
use Rattle.state_text.specs.declared.verb.Verb.{Verb}
use Rattle.todo_text.proofs.TodoLaws.{todo_read}
use Rattle.todo_text.specs.ReadTodo.{TodoGives, begun_by, led_by, line_in, todo_of}
use Rattle.todo_text.specs.Todos.{IsTodoReading, counts, is_comment}
use Rattle.todo_text.specs.declared.fault.TodoFault.TheVariants.{Bad, Memory}
use Rattle.todo_text.specs.declared.fault.TodoFault.{TodoFault}
use Rattle.todo_text.specs.declared.line.Line.{Line}
use Rattle.todo_text.specs.declared.todo_kind.TodoKind.{TodoKind}
use Rattle.reading.specs.Standing.{IsQuiet, Tells, with_left}
use Rattle.reading.specs.State.{todo_path}

-- ---- whatever a todo has, something is left

abbrev IsTold : Result (List Line) TodoFault → Type 0
IsTold (Ok lines) = Unit {0}
IsTold (Err (Bad number kind)) = Unit {0}
IsTold (Err Memory) = ⊥

told_led : (first : List Line) (r : Result (List Line) TodoFault) → IsTold r → IsTold (led_by first r)
told_led first (Ok lines) told = tt
told_led first (Err (Bad number kind)) told = tt
told_led first (Err Memory) told = absurd told

told_begun : (number : ℕ) (line : Result Line TodoKind) (rest : Line → Result (List Line) TodoFault) → ((l : Line) → IsTold (rest l))
    → IsTold (begun_by number line rest)
told_begun number (Ok line) rest told = told_led (line ∷ []) (rest line) (told line)
told_begun number (Err kind) rest told = tt

told_if : (test : Bool) (one other : Result (List Line) TodoFault) → IsTold one → IsTold other → IsTold (cond test one other)
told_if true one other first second = first
told_if false one other first second = second

told_todo : (texts : List Text) (earlier : Bool) (number : ℕ) → IsTold (todo_of earlier number texts)
unfolding todo_of
told_todo [] earlier number = tt
told_todo (text ∷ texts) earlier number =
    let later : Line → Result (List Line) TodoFault = λ line. todo_of (earlier || counts line) (number + 1) texts in
    told_if (is_comment text) (todo_of earlier (number + 1) texts) (begun_by number (line_in earlier text) later) (told_todo texts earlier (number + 1))
    (told_begun number (line_in earlier text) later (λ line. told_todo texts (earlier || counts line) (number + 1)))

gives_itself : (r : Result (List Line) TodoFault) → TodoGives r r
gives_itself (Ok lines) = refl
gives_itself (Err (Bad number kind)) = refl
gives_itself (Err Memory) = tt

left_read : (earlier : Bool) (bytes : Text) (r : Result (List Line) TodoFault) → IsTold r → IsTodoReading earlier bytes r
    → (left : Left) × IsLeftOf earlier bytes left
left_read earlier bytes (Ok lines) told reads = (Lines lines, reads.0)
left_read earlier bytes (Err (Bad number kind)) told reads = (Raw bytes, (refl, reads.1))
left_read earlier bytes (Err Memory) told reads = absurd told

something_left : (earlier : Bool) (bytes : Text) → (left : Left) × IsLeftOf earlier bytes left
something_left earlier bytes =
    let r = todo_of earlier 1 (text_lines bytes) in
    left_read earlier bytes r (told_todo (text_lines bytes) earlier 1) (todo_read earlier bytes r (gives_itself r))

-- ---- a file that is asked stays

-- it is a file of a list, and not the todo
abbrev stays_put : Path → Bool
stays_put path = is_state_path path && not (bytes_eq path todo_path)

all_true : (test : StateFile → Bool) (files : List StateFile) → list_all test files ≡ true → AllByRecursion (λ f. test f ≡ true) files
all_true test [] all = tt
all_true test (f ∷ files) all =
    let both = and_parts (test f) (list_all test files) all in
    (both.0, all_true test files both.1)

asked_stay : (verb : Verb) → list_all (λ f. stays_put (state_path verb f)) (asked_files verb) ≡ true
asked_stay Rebase = refl
asked_stay CherryPick = refl
asked_stay Revert = refl

step_stays : (verb : Verb) → stays_put (in_step_path verb) ≡ true
step_stays Rebase = refl
step_stays CherryPick = refl
step_stays Revert = refl

asked_stays : (verb : Verb) (f : StateFile) → among f (asked_files verb) → stays_put (state_path verb f) ≡ true
asked_stays verb f there =
    of_one (λ g. stays_put (state_path verb g) ≡ true) (asked_files verb) f there
    (all_true (λ g. stays_put (state_path verb g)) (asked_files verb) (asked_stay verb))

module _ (old new : World) (quiet : IsQuiet old new) where
  put_same : (path : Path) (state todo : Bool) → is_state_path path ≡ state → bytes_eq path todo_path ≡ todo → (state && not todo) ≡ true
      → map.get new path ≡ map.get old path
  put_same path true false state todo is = quiet path state (ap (λ (b : Bool). b && has_files old (folder_of Rebase)) todo)
  put_same path true true state todo is = absurd cc
  put_same path false todo state is-todo is = absurd cc

  file_same : (path : Path) → stays_put path ≡ true → map.get new path ≡ map.get old path
  file_same path stays = put_same path (is_state_path path) (bytes_eq path todo_path) refl refl stays

  -- without a file of a rebase, none comes
  none_same : has_files old (folder_of Rebase) ≡ false → (path : Path) → is_below (folder_of Rebase) path ≡ true → map.get new path ≡ None
  none_same none path below =
      let state : is_state_path path ≡ true = rw below refl in
      quiet path state (no_todo (bytes_eq path todo_path)) ∙ not_below old (folder_of Rebase) path none below
    where
      no_todo : (b : Bool) → (b && has_files old (folder_of Rebase)) ≡ false
      no_todo true = none
      no_todo false = refl

  module _ (told : Control) where
    abbrev FitsAt : World → Verb → StateFile → Type 0
    FitsAt w verb f = map.get w (state_path verb f) ≡ text_in f told

    fits_same : (verb : Verb) → AllByRecursion (FitsAt old verb) (asked_files verb) → AllByRecursion (FitsAt new verb) (asked_files verb)
    fits_same verb all =
        all_of (FitsAt old verb) (FitsAt new verb) (asked_files verb) (λ f there fits. file_same (state_path verb f) (asked_stays verb f there) ∙ fits) all

    -- the file `onto` of a rebase stands
    onto_stands : AllByRecursion (FitsAt new Rebase) (asked_files Rebase) → map.get new (state_path Rebase file.Onto) ≡ Some (id_line told.onto)
    unfolding text_in
    onto_stands all = of_one (FitsAt new Rebase) (asked_files Rebase) file.Onto refl all

    folder_same : (verb : Verb) → AllByRecursion (FitsAt new verb) (asked_files verb) → IsFolderRead old verb → IsFolderRead new verb
    folder_same Rebase all is = some_below new (folder_of Rebase) (state_path Rebase file.Onto) (id_line told.onto) refl (onto_stands all)
    folder_same CherryPick all is = nothing_below new (folder_of Rebase) (none_same is)
    folder_same Revert all is = nothing_below new (folder_of Rebase) (none_same is)

    left_same : (verb : Verb) (left : Left) → IsLeftBehind verb old told left → (other : Left) × IsLeftBehind verb new told other
    left_same Rebase left is = something_left (has_lines told.done) (unwrap_or (map.get new (state_path Rebase file.RebaseTodo)) [])
    left_same CherryPick left is = (left, is)
    left_same Revert left is = (left, is)

pub files_tell : (old new : World) (k : Control) → IsQuiet old new → IsPaused old k → Tells k new
files_tell old new k quiet paused =
    let told = paused.told in
    let left = left_same old new quiet told told.verb k.left paused.left in
    let fits = fits_same old new quiet told told.verb paused.fits in
    let rests = file_same old new quiet (in_step_path told.verb) (step_stays told.verb) ∙ paused.rests in (
      left.0,
      record {
        told = told;
        control = paused.control;
        held = paused.held;
        folder = folder_same old new quiet told told.verb fits paused.folder;
        rests = rests;
        fits = fits;
        left = left.1;
        is = ap (with_left left.0) paused.is;
      },
    )
