use Rattle.std.proofs.Common.{◌≡◌, ◌++◌, length}
use Rattle.attr_rules.specs.Attributes.{macros_of, definitions, counting}
use Rattle.attr_rules.proofs.macros.macros_of.Given as goal

abbrev pub invariant-loop-rest : goal.invariant-loop-rest
invariant-loop-rest l = l.macros.items ++ counting l.macros.items (definitions l.rest) ≡ macros_of l.files

abbrev pub decreases-loop-rest : goal.decreases-loop-rest
decreases-loop-rest l = length l.rest
