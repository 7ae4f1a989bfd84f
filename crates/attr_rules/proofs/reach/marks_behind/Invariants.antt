use Rattle.std.proofs.Common.{◌≡◌, ◌++◌, length}
use Rattle.attr_rules.specs.Reach.{later_marks, marks_behind}
use Rattle.attr_rules.specs.Coded.{piece_of}
use Rattle.attr_rules.specs.Reach.{may_be_empty}
use Rattle.attr_rules.proofs.reach.marks_behind.Given as goal

abbrev pub invariant-loop-left : goal.invariant-loop-left
invariant-loop-left l =
    (l.may_be_empty ≡ may_be_empty (piece_of l.piece))
    × (l.behind.items ++ later_marks (piece_of l.piece) l.begun l.left l.rest ≡ marks_behind (piece_of l.piece) l.marks l.path)

abbrev pub decreases-loop-left : goal.decreases-loop-left
decreases-loop-left l = length l.left
