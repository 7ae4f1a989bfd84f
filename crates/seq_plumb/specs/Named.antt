-- Words that name files (git-add(1), git-rm(1), "<pathspec>").
use Rattle.std.specs.Prelude.{Bool, not, ◌==◌, ◌&&◌, ◌||◌, nat_lt, List, [], ◌∷◌, ◌++◌, length, is_none, is_some, Result, Ok, Err, if◌then◌else◌}
use Rattle.std.specs.FinMap as file
use Rattle.seq_base.specs.Paths.{first_bad, parts}
use Rattle.seq_base.specs.StorePaths.{is_text}
use Rattle.seq_base.specs.Words.{Path, Text}
use Rattle.seq_base.specs.World.{World}
use Rattle.seq_outside.specs.Halts.{◌>>=◌}
use Rattle.index_file.specs.declared.entry.IndexEntry.{IndexEntry}
use Rattle.stage_index.specs.Switching.{is_tracked}
use Rattle.seq_model.specs.Refusing.{refuse_if}
use Rattle.seq_model.specs.declared.denial.Denial.{Denial}
use Rattle.seq_model.specs.declared.denial.Denial.TheVariants.{Refused}
use Rattle.seq_model.specs.declared.refusal.Refusal.TheVariants.{BadPath, NotTracked}

-- the word is a path of the worktree: not empty, not too long, text, and with no part that leads elsewhere
abbrev pub is_path : Text → Bool
is_path word = not (length word == 0) && not (nat_lt 4095 (length word)) && is_text word && is_none (first_bad 0 (parts word))

-- the path that a word is
unfoldable pub path_named : Text → Result Path Denial
path_named word = if is_path word then Ok word else Err (Refused (BadPath word))

-- the paths that the words are, behind others
unfoldable pub paths_behind : List Path → List Text → Result (List Path) Denial
paths_behind before [] = Ok before
paths_behind before (word ∷ words) = do
  path ← path_named word
  paths_behind (before ++ path ∷ []) words

abbrev pub paths_named : List Text → Result (List Path) Denial
paths_named words = paths_behind [] words

-- the index has each of the paths, at whatever stage
unfoldable pub are_tracked : List IndexEntry → List Path → Result (Unit {0}) Denial
are_tracked index [] = Ok tt
are_tracked index (path ∷ paths) = do
  one ← refuse_if (not (is_tracked index path)) (NotTracked path)
  are_tracked index paths

-- the index has the path, or a file stands at it
unfoldable pub is_known : World → List IndexEntry → Path → Result (Unit {0}) Denial
is_known w index path = refuse_if (not (is_tracked index path || is_some (file.get w path))) (NotTracked path)

-- that holds of each of the paths
unfoldable pub are_known : World → List IndexEntry → List Path → Result (Unit {0}) Denial
are_known w index [] = Ok tt
are_known w index (path ∷ paths) = do
  one ← is_known w index path
  are_known w index paths
