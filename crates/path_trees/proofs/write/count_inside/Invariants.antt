use Rattle.std.proofs.Common.{◌≡◌, ◌+◌, ◌≤◌, length}
use Rattle.std.specs.List.{AllByRecursion}
use Rattle.path_trees.specs.Puts.{count_inside, cut}
use Rattle.path_trees.proofs.write.count_inside.Given as goal

abbrev pub invariant-loop-rest : goal.invariant-loop-rest
invariant-loop-rest l = record {
  total : count_inside l.folder (cut l.skip l.fn.rows) ≡ l.count + count_inside l.folder (cut l.skip l.rest);
  long : AllByRecursion (λ e. l.skip ≤ length e.0) l.rest;
  room : l.count + length l.rest ≤ length l.fn.rows;
}

abbrev pub decreases-loop-rest : goal.decreases-loop-rest
decreases-loop-rest l = length l.rest
