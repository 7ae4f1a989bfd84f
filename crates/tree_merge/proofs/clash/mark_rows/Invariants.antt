use Rattle.std.proofs.Common.{◌≡◌, ◌++◌, take, drop}
use Rattle.std.specs.Prelude.{map}
use Rattle.tree_merge.specs.Plans.{marked}
use Rattle.tree_merge.proofs.clash.mark_rows.Given as goal

abbrev pub invariant-loop-i : goal.invariant-loop-i
invariant-loop-i l = l.rows ≡ map (marked l.initial.rows) (take l.i l.initial.rows) ++ drop l.i l.initial.rows
