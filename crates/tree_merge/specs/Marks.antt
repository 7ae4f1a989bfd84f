-- Marks beside the rows of a plan.
use Rattle.std.specs.Prelude.{◌≡◌, ℕ, ◌<◌, Bool, false, List, length, slice_index_or}
use Rattle.tree_merge.specs.declared.plans.Planned.{Planned}
use Rattle.tree_merge.specs.Plans.{is_lower, is_upper}

-- one mark a row: whether another path lies below it, and whether it lies below another
pub record AreMarks (rows : List Planned) (uppers lowers : List Bool) : Type 0 where
  pub uppers_length : length uppers ≡ length rows
  pub lowers_length : length lowers ≡ length rows
  pub upper : (k : ℕ) (d : Planned) → k < length rows → slice_index_or uppers k false ≡ is_upper rows (slice_index_or rows k d)
  pub lower : (k : ℕ) (d : Planned) → k < length rows → slice_index_or lowers k false ≡ is_lower rows (slice_index_or rows k d)
