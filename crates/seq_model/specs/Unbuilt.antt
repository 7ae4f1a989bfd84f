-- What stands in a repository that a pick does not take yet: another command in progress (git-status(1)), and hooks.
use Rattle.std.specs.Prelude.{ℕ, not, ◌==◌, List, [], ◌∷◌, length, codes, Result, Ok, Err, is_some}
use Rattle.std.specs.FinMap as map
use Rattle.seq_base.specs.World.{World}
use Rattle.seq_outside.specs.Store.{files_below}
use Rattle.seq_outside.specs.Halts.{◌>>=◌}
use Rattle.seq_model.specs.Checks.{is_repository}
use Rattle.seq_model.specs.Refusing.{refuse_if}
use Rattle.seq_model.specs.declared.denial.Denial.{Denial}
use Rattle.seq_model.specs.declared.denial.Denial.TheVariants.{Refused}
use Rattle.seq_model.specs.declared.refusal.Refusal.TheVariants.{NotBuilt}

-- what is known and not built yet is refused, in a repository
unfoldable pub not_built : {X : Type 0} → World → Result X Denial
not_built w = do
  repository ← is_repository w
  Err (Refused NotBuilt)

-- no file stands below the path
unfoldable pub lacks_below : World → List ℕ → Result (Unit {0}) Denial
lacks_below w path = refuse_if (not (length (files_below w path) == 0)) NotBuilt

-- nothing stands at the path or below it
unfoldable pub lacks : World → List ℕ → Result (Unit {0}) Denial
lacks w path = do
  file ← refuse_if (is_some (map.get w path)) NotBuilt
  lacks_below w path

-- nothing stands at one of the paths or below it
unfoldable pub lacks_all : World → List (List ℕ) → Result (Unit {0}) Denial
lacks_all w [] = Ok tt
lacks_all w (path ∷ paths) = do
  one ← lacks w path
  lacks_all w paths

-- what shows that a command is in progress
abbrev pub untaken_paths : List (List ℕ)
untaken_paths =
    codes ".git/rebase-merge" ∷ codes ".git/sequencer" ∷ codes ".git/rebase-apply" ∷ codes ".git/CHERRY_PICK_HEAD" ∷ codes ".git/REVERT_HEAD" ∷ codes ".git/MERGE_HEAD"
    ∷ []

-- nothing stands that is not taken yet, nor a hook
unfoldable pub only_built : World → Result (Unit {0}) Denial
only_built w = do
  untaken ← lacks_all w untaken_paths
  lacks_below w (codes ".git/hooks")
