-- What a stop leaves, so that the next process reads it: the files of its control, and what is looked at beside them.
use Rattle.std.specs.Prelude.{◌≡◌, true, false, List, ◌++◌, None, is_some}
use Rattle.std.specs.FinMap as map
use Rattle.std.specs.List.{AllByRecursion, list_any}
use Rattle.seq_base.specs.Words.{Path, Text}
use Rattle.seq_base.specs.World.{World, is_below}
use Rattle.seq_outside.specs.Writes.{written}
use Rattle.state_text.specs.declared.control.Control.{Control}
use Rattle.state_text.specs.declared.state_file.StateFile.{StateFile}
use Rattle.state_text.specs.declared.verb.Verb.{Verb}
use Rattle.state_text.specs.declared.verb.Verb.TheVariants.{Rebase, CherryPick, Revert}
use Rattle.state_text.specs.Controls.{IsControl}
use Rattle.state_text.specs.Places.{files_of, folder_of, in_step_path, state_path}
use Rattle.state_text.specs.States.{state_files}
use Rattle.state_text.specs.Stops.{has_file, is_listed, stop_writes}
use Rattle.state_text.specs.Texts.{left_text}
use Rattle.state_found.specs.Found.{Fits, IsHeld, IsLeftOf, has_files, has_lines}

-- what is left of a rebase is what its own text says
abbrev pub IsLeftTold : Verb → Control → Type 0
IsLeftTold Rebase k = IsLeftOf (has_lines k.done) (left_text k.left) k.left
IsLeftTold CherryPick k = Unit {0}
IsLeftTold Revert k = Unit {0}

-- its files tell all of it
pub record IsWhole (k : Control) : Type 0 where
  pub control : IsControl k
  pub held : IsHeld k
  pub left : IsLeftTold k.verb k

abbrev pub NoRebase : World → Type 0
NoRebase w = has_files w (folder_of Rebase) ≡ false

-- no file of a rebase stands beside those of another list
abbrev pub IsAlone : Verb → World → Type 0
IsAlone Rebase w = Unit {0}
IsAlone CherryPick w = NoRebase w
IsAlone Revert w = NoRebase w

-- its files stand as it has them, none that it has not, and no process runs
pub record Stands (w : World) (k : Control) : Type 0 where
  pub fits : AllByRecursion (Fits w k) (files_of k.verb)
  pub rests : map.get w (in_step_path k.verb) ≡ None
  pub alone : IsAlone k.verb w

-- none of the files is below the folder of a rebase
abbrev pub NoneOfRebase : List (Path × Text) → Type 0
NoneOfRebase more = list_any (λ (x : Path × Text). is_below (folder_of Rebase) x.0) more ≡ false

-- nor is one among the files that are written
abbrev pub StaysAlone : Verb → World → List (Path × Text) → Type 0
StaysAlone Rebase w more = Unit {0}
StaysAlone CherryPick w more = NoRebase w × NoneOfRebase more
StaysAlone Revert w more = NoRebase w × NoneOfRebase more

-- A stop that writes more than the files of its control, as the texts of a squash chain: of the files of its verb none is among these,
-- and each that stood was found.
pub record IsStopOver (w : World) (verb : Verb) (more : List (Path × Text)) (found : List Path) : Type 0 where
  pub apart : AllByRecursion (λ (f : StateFile). has_file more (state_path verb f) ≡ false) (files_of verb)
  pub listed : AllByRecursion
      (λ (f : StateFile). is_some (map.get w (state_path verb f)) ≡ true → is_listed found (state_path verb f) ≡ true)
      (files_of verb)
  pub alone : StaysAlone verb w more

-- the world behind it
abbrev pub behind_stop_of : Control → List (Path × Text) → List Path → World → World
behind_stop_of k more found w = written w (stop_writes k.verb (state_files k ++ more) found)
