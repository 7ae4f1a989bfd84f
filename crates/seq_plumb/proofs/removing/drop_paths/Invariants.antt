use Rattle.std.proofs.Common.{◌≡◌, length}
use Rattle.std.specs.List.{AllByRecursion}
use Rattle.index_file.specs.Entries.{IsInOrder, IsStaged}
use Rattle.seq_plumb.specs.Removing.{others_of_all}
use Rattle.seq_plumb.proofs.removing.drop_paths.Given as goal

abbrev pub invariant-loop-rest : goal.invariant-loop-rest
invariant-loop-rest l = record {
  others : others_of_all l.index.items l.rest ≡ others_of_all l.fn.index.items l.paths;
  order : IsInOrder l.index.items;
  staged : AllByRecursion IsStaged l.index.items;
}

abbrev pub decreases-loop-rest : goal.decreases-loop-rest
decreases-loop-rest l = length l.rest
