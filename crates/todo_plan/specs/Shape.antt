-- How the first commit with each subject is kept.
use Rattle.std.specs.Prelude.{◌≡◌, ℕ, List}
use Rattle.std.specs.BTreeMap.{BTreeMap, get}
use Rattle.std.specs.Cmp.Lexicographic.{slice_cmp}
use Rattle.std.specs.Ordering.{nat_cmp}
use Rattle.todo_plan.specs.Autosquash.{Row, with_subject}

pub record AreRows (rows : List Row) (subjects : BTreeMap (List ℕ) ℕ) : Type 0 where
  pub first : (text : List ℕ) → get (slice_cmp nat_cmp) subjects text ≡ with_subject rows text
