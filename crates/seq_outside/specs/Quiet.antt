-- Which edits between invocations, or by a child, leave a rebase, a cherry-pick or a revert as it stands.
use Rattle.std.specs.Prelude.{◌≡◌, ◌⊎◌, ℕ, true, List, codes}
use Rattle.std.specs.FinMap as map
use Rattle.seq_base.specs.Repository.{IsRepository}
use Rattle.seq_base.specs.StatePaths.{is_state_path}
use Rattle.seq_base.specs.World.{World, is_below}

-- where a rebase keeps its todo
abbrev pub todo_path : List ℕ
todo_path = codes ".git/rebase-merge/git-rebase-todo"

-- a file stands below the folder
abbrev pub HasBelow : World → List ℕ → Type 0
HasBelow w folder = (path : List ℕ) × (is_below folder path ≡ true) × (map.contains_key w path ≡ true)

-- the todo of a rebase that is in progress, at this path
abbrev pub IsTodo : World → List ℕ → Type 0
IsTodo w path = (path ≡ todo_path) × HasBelow w (codes ".git/rebase-merge")

-- Both are repositories, with the same state files and labels; where a rebase is in progress its todo may be another.
pub record Quiet (old new : World) : Type 0 where
  pub was : IsRepository old
  pub is : IsRepository new
  pub state : (path : List ℕ) → is_state_path path ≡ true → (map.get new path ≡ map.get old path) ⊎ IsTodo old path
