-- How the files of a stopped list are judged: a control is recalled, and each file is compared with what that control has.
use Rattle.std.specs.Prelude.{◌≡◌, ℕ, ◌<◌, ◌^◌, Bool, not, max, if◌then◌else◌, List, [], ◌∷◌, length, map, Option, Some, None, Result, Ok, Err}
use Rattle.std.specs.FinMap as files
use Rattle.std.specs.Option.{option_eq}
use Rattle.std.specs.Str.{bytes_eq}
use Rattle.grammar.specs.Decimals.{capped_decimal_at}
use Rattle.seq_base.specs.Words.{Text}
use Rattle.seq_base.specs.World.{World}
use Rattle.state_text.specs.declared.control.Control.{Control}
use Rattle.state_text.specs.declared.control.Left.{Left}
use Rattle.state_text.specs.declared.state_file.StateFile.{StateFile}
use Rattle.state_text.specs.declared.state_file.StateFile.TheVariants as file
use Rattle.state_text.specs.declared.verb.Verb.{Verb}
use Rattle.state_text.specs.Places.{state_path}
use Rattle.state_text.specs.Texts.{number_line, text_in}
use Rattle.state_reading.specs.Recalls.{bytes_at, is_file}
use Rattle.state_found.specs.Found.{IsLeftOf, asked_files, has_lines}
use Rattle.state_found.specs.Recalled.{Files, IsRebaseIn, IsSequenceIn}

abbrev pub read_number : Result (ℕ × Text) ℕ → ℕ
read_number (Ok x) = x.0
read_number (Err left) = 0

-- the number that `end` tells
abbrev pub number_at : Text → ℕ
number_at bytes = read_number (capped_decimal_at 10 bytes)

-- what a file is to hold, where so many lines were in all
abbrev pub wanted : ℕ → StateFile → Control → Option Text
wanted n f k = if is_file f file.End then Some (number_line (max n (length k.done))) else text_in f k

abbrev pub same_text : Option Text → Option Text → Bool
same_text a b = option_eq bytes_eq a b

abbrev pub is_misfit : ℕ → Control → StateFile × Option Text → Bool
is_misfit n k x = not (same_text x.1 (wanted n x.0 k))

-- the first file that does not hold what it is to hold
abbrev pub first_misfit : ℕ → Control → List (StateFile × Option Text) → Option StateFile
first_misfit n k [] = None
first_misfit n k (x ∷ found) = if is_misfit n k x then Some x.0 else first_misfit n k found

-- no other reads as what was left
pub record IsOnlyLeft (earlier : Bool) (bytes : Text) (left : Left) : Type 0 where
  pub is : IsLeftOf earlier bytes left
  pub only : (other : Left) → IsLeftOf earlier bytes other → left ≡ other

-- ---- the files of a world

abbrev pub files_found : World → Verb → List (StateFile × Option Text)
files_found w verb = map (λ (f : StateFile). (f, files.get w (state_path verb f))) (asked_files verb)

-- ---- a rebase

-- a control was recalled, and this is the first file that it has not as it was found
pub record RebaseJudged (found : Files) (misfit : Option StateFile) (k : Control) : Type 0 where
  pub is : IsRebaseIn found k
  pub small : length k.done < 2 ^ 64
  pub judged : misfit ≡ first_misfit (number_at (bytes_at found file.End)) k found

pub record RebaseKept (found : Files) (todo : Text) (kept : Control) : Type 0 where
  pub told : Control
  pub judged : RebaseJudged found None told
  pub left : IsOnlyLeft (has_lines told.done) todo kept.left
  pub is : kept ≡ record told { left = kept.left }

abbrev pub IsRebaseJudged : Files → Text → Result Control StateFile → Type 0
IsRebaseJudged found todo (Ok k) = RebaseKept found todo k
IsRebaseJudged found todo (Err f) = (k : Control) × RebaseJudged found (Some f) k

-- ---- a cherry-pick or a revert

pub record SequenceJudged (found : Files) (misfit : Option StateFile) (k : Control) : Type 0 where
  pub is : IsSequenceIn found k
  pub judged : misfit ≡ first_misfit 0 k found

abbrev pub IsSequenceJudged : Files → Result Control StateFile → Type 0
IsSequenceJudged found (Ok k) = SequenceJudged found None k
IsSequenceJudged found (Err f) = (k : Control) × SequenceJudged found (Some f) k
