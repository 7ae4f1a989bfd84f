use Rattle.std.proofs.Common.{◌≡◌, ℕ, List, drop}
use Rattle.std.specs.Prelude.{◌||◌}
use Rattle.std.specs.BTreeSet.{contains}
use Rattle.std.specs.Cmp.Lexicographic.{slice_cmp}
use Rattle.std.specs.Ordering.{nat_cmp}
use Rattle.merge_base.specs.Graphs.{is_among}
use Rattle.todo_plan.proofs.merges.set_of.Given as goal

abbrev pub invariant-loop-id : goal.invariant-loop-id
invariant-loop-id l = (other : List ℕ) → (is_among (drop l.id-index l.ids) other || contains (slice_cmp nat_cmp) l.set other) ≡ is_among l.ids other
