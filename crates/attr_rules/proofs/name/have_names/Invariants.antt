use Rattle.std.proofs.Common.{◌≡◌, length}
use Rattle.attr_rules.specs.Names.{have_names}
use Rattle.attr_rules.proofs.name.have_names.Given as goal

abbrev pub invariant-loop-rest : goal.invariant-loop-rest
invariant-loop-rest l = have_names l.rest ≡ have_names l.attributes

abbrev pub decreases-loop-rest : goal.decreases-loop-rest
decreases-loop-rest l = length l.rest
