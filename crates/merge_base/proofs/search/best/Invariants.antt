use Rattle.std.proofs.Common.{◌≡◌}
use Rattle.merge_base.specs.Marks.{left_of_both}
use Rattle.merge_base.proofs.search.best.Given as goal

abbrev pub invariant-loop-place : goal.invariant-loop-place
invariant-loop-place l = l.ids.items ≡ left_of_both l.graph l.of_a l.of_b l.above l.place
