-- What the files of a stopped list are found to be (git-rebase(1), git-cherry-pick(1), git-revert(1): what `--continue` goes on with).
use Rattle.std.specs.Prelude.{◌≡◌, ◌⊎◌, ◌+◌, ◌<◌, ◌^◌, Bool, true, false, not, ◌==◌, if◌then◌else◌, List, [], ◌∷◌, ◌++◌, length, codes, Some, None, unwrap_or, MatchBool}
use Rattle.std.specs.FinMap as map
use Rattle.std.specs.List.{AllByRecursion, filter, list_any}
use Rattle.std.specs.Str.{bytes_eq}
use Rattle.seq_base.specs.Words.{Path, Text}
use Rattle.seq_base.specs.Repository.{IsRepository}
use Rattle.seq_base.specs.StatePaths.{is_state_path}
use Rattle.seq_base.specs.World.{World}
use Rattle.seq_outside.specs.Store.{files_below}
use Rattle.todo_text.specs.declared.line.Line.{Line}
use Rattle.todo_text.specs.Todos.{SpellsTodo}
use Rattle.state_text.specs.declared.control.Control.{Control}
use Rattle.state_text.specs.declared.control.Left.{Left}
use Rattle.state_text.specs.declared.control.Left.TheVariants.{Lines, Raw}
use Rattle.state_text.specs.declared.state_file.StateFile.{StateFile}
use Rattle.state_text.specs.declared.state_file.StateFile.TheVariants as file
use Rattle.state_text.specs.declared.verb.Verb.{Verb}
use Rattle.state_text.specs.declared.verb.Verb.TheVariants.{Rebase, CherryPick, Revert}
use Rattle.state_text.specs.Controls.{IsControl, IsTyped}
use Rattle.state_text.specs.Places.{files_of, folder_of, in_step_path, state_path}
use Rattle.state_text.specs.Texts.{left_count, text_in}
use Rattle.state_reading.specs.Recalls.{is_file}

-- the todo of a rebase may be edited while it is stopped, so it is not asked what it holds
abbrev pub is_asked : StateFile → Bool
is_asked f = not (is_file f file.RebaseTodo)

-- the files that tell a control of the verb, in the order in which they are looked at
abbrev pub asked_files : Verb → List StateFile
asked_files verb = filter is_asked (files_of verb)

-- those that stand before this one
abbrev pub files_before : StateFile → List StateFile → List StateFile
files_before f [] = []
files_before f (g ∷ files) = if is_file g f then [] else g ∷ files_before f files

-- the file stands as the control has it, or does not stand where the control has none
abbrev pub Fits : World → Control → StateFile → Type 0
Fits w k f = map.get w (state_path k.verb f) ≡ text_in f k

-- ids are ids, and numbers fit, also that of the lines, which a rebase tells
pub record IsHeld (k : Control) : Type 0 where
  pub typed : IsTyped k
  pub lines : k.verb ≡ Rebase → length k.done + left_count k.left < 2 ^ 64

abbrev pub has_files : World → Path → Bool
has_files w folder = not (length (files_below w folder) == 0)

-- the folder that is read: that of a rebase where a file stands below it
abbrev pub IsFolderRead : World → Verb → Type 0
IsFolderRead w Rebase = has_files w (folder_of Rebase) ≡ true
IsFolderRead w CherryPick = has_files w (folder_of Rebase) ≡ false
IsFolderRead w Revert = has_files w (folder_of Rebase) ≡ false

-- what is left of a rebase: the lines that its todo reads as, or else its bytes
abbrev pub IsLeftOf : Bool → Text → Left → Type 0
IsLeftOf earlier bytes (Lines ls) = SpellsTodo earlier bytes ls
IsLeftOf earlier bytes (Raw raw) = (raw ≡ bytes) × ((ls : List Line) → SpellsTodo earlier bytes ls → ⊥)

abbrev pub has_lines : List Line → Bool
has_lines ls = not (length ls == 0)

-- the lines left of a cherry-pick or revert are those of its file, which no one edits
abbrev pub IsLeftBehind : Verb → World → Control → Left → Type 0
IsLeftBehind Rebase w k left = IsLeftOf (has_lines k.done) (unwrap_or (map.get w (state_path Rebase file.RebaseTodo)) []) left
IsLeftBehind CherryPick w k left = left ≡ k.left
IsLeftBehind Revert w k left = left ≡ k.left

-- The world's files are those of a control, but for the todo of a rebase, which tells what is left.
pub record IsPaused (w : World) (k : Control) : Type 0 where
  pub told : Control
  pub control : IsControl told
  pub held : IsHeld told
  pub folder : IsFolderRead w told.verb
  pub rests : map.get w (in_step_path told.verb) ≡ None
  pub fits : AllByRecursion (Fits w told) (asked_files told.verb)
  pub left : IsLeftBehind told.verb w told k.left
  pub is : k ≡ record told { left = k.left }

-- The first file such that no control has it and those before it.
pub record IsFirstMisfit (verb : Verb) (w : World) (f : StateFile) : Type 0 where
  pub asked : list_any (is_file f) (asked_files verb) ≡ true
  pub goes_on : (k : Control) × IsControl k × IsHeld k × (folder_of k.verb ≡ folder_of verb)
      × AllByRecursion (Fits w k) (files_before f (asked_files verb))
  pub no_further : (k : Control) → IsControl k → IsHeld k → folder_of k.verb ≡ folder_of verb
      → AllByRecursion (Fits w k) (files_before f (asked_files verb)) → Fits w k f → ⊥

-- A file stands in the folder, no process was interrupted, and this is the first file such that no control has it and those before it.
pub record IsBadIn (verb : Verb) (w : World) (f : StateFile) : Type 0 where
  pub there : has_files w (folder_of verb) ≡ true
  pub rests : map.get w (in_step_path verb) ≡ None
  pub first : IsFirstMisfit verb w f

-- such a file of the folder that is read
abbrev pub IsBad : World → StateFile → Type 0
IsBad w f = MatchBool (has_files w (folder_of Rebase)) (IsBadIn Rebase w f) (IsBadIn CherryPick w f)

-- ---- what was interrupted

-- `in-step` of a cherry-pick or a revert tells which
abbrev pub verb_of_step : Text → Verb
verb_of_step text = if bytes_eq text (codes "revert" ++ 10 ∷ []) then Revert else CherryPick

abbrev pub IsStepOf : Verb → Text → Type 0
IsStepOf Rebase text = Unit {0}
IsStepOf CherryPick text = verb_of_step text ≡ CherryPick
IsStepOf Revert text = verb_of_step text ≡ Revert

pub record IsInterrupted (w : World) (verb : Verb) : Type 0 where
  pub folder : IsFolderRead w verb
  pub text : Text
  pub stands : map.get w (in_step_path verb) ≡ Some text
  pub told : IsStepOf verb text

-- no file stands in either folder
pub record HasNoState (w : World) : Type 0 where
  pub rebase : has_files w (folder_of Rebase) ≡ false
  pub sequence : has_files w (folder_of CherryPick) ≡ false

-- ---- what an edit between two invocations may not touch

-- all that tells of a stopped list, but for the todo of a rebase
abbrev pub IsQuiet : World → World → Type 0
IsQuiet before after =
    IsRepository before × IsRepository after
    × ((path : Path) → is_state_path path ≡ true
    → ((path ≡ state_path Rebase file.RebaseTodo) × (has_files before (folder_of Rebase) ≡ true)) ⊎ (map.get after path ≡ map.get before path))
