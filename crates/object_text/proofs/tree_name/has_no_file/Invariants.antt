use Rattle.std.proofs.Common.{◌≤◌, length, reverse, take}
use Rattle.object_text.specs.ReadTrees.{is_new}
use Rattle.object_text.proofs.Names.{Looking}
use Rattle.object_text.proofs.tree_name.has_no_file.Given as goal

abbrev pub invariant-loop-left : goal.invariant-loop-left
invariant-loop-left l = record {
  within : l.left ≤ length l.entries;
  looking : Looking (is_new (reverse l.entries) l.folder) l.folder (reverse (take l.left l.entries));
}

abbrev pub decreases-loop-left : goal.decreases-loop-left
decreases-loop-left l = l.left
