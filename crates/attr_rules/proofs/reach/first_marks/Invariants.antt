use Rattle.std.proofs.Common.{◌≡◌, ◌++◌, map, false, length}
use Rattle.attr_rules.specs.Reach.{first_marks}
use Rattle.attr_rules.proofs.reach.first_marks.Given as goal

abbrev pub invariant-loop-rest : goal.invariant-loop-rest
invariant-loop-rest l = l.marks.items ++ map (λ _. false) l.rest ≡ first_marks l.path

abbrev pub decreases-loop-rest : goal.decreases-loop-rest
decreases-loop-rest l = length l.rest
