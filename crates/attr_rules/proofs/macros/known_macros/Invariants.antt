use Rattle.std.proofs.Common.{◌≡◌, ◌++◌, length}
use Rattle.attr_rules.specs.Attributes.{macros_of}
use Rattle.attr_rules.specs.declared.macros.Macro.{Macro}
use Rattle.std.specs.Prelude.{List}
use Rattle.attr_rules.specs.Known.{known_of}
use Rattle.attr_rules.proofs.macros.known_macros.Given as goal

abbrev pub invariant-loop-rest : goal.invariant-loop-rest
invariant-loop-rest l = (done : List Macro) × (l.rest ++ done ≡ macros_of l.files) × (l.known.items ≡ known_of done)

abbrev pub decreases-loop-rest : goal.decreases-loop-rest
decreases-loop-rest l = length l.rest
