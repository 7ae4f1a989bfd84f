use Rattle.std.proofs.Common.{◌≡◌, ◌++◌, length}
use Rattle.std.specs.Prelude.{map}
use Rattle.std.specs.List.{AllByRecursion}
use Rattle.seq_base.specs.StorePaths.{IsStorePath}
use Rattle.seq_outside.specs.Writes.{HasStorePath}
use Rattle.worktree.specs.Resets.{removal}
use Rattle.worktree.proofs.room.removals_of.Given as goal

abbrev pub invariant-loop-rest : goal.invariant-loop-rest
invariant-loop-rest l = record {
  made : l.writes.items ++ map removal l.rest ≡ map removal l.files;
  paths : AllByRecursion HasStorePath l.writes.items;
  left : AllByRecursion IsStorePath l.rest;
}

abbrev pub decreases-loop-rest : goal.decreases-loop-rest
decreases-loop-rest l = length l.rest
