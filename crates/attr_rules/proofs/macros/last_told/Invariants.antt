use Rattle.std.proofs.Common.{◌≡◌, length}
use Rattle.std.specs.Option.{option_or}
use Rattle.attr_rules.specs.Attributes.{last_said}
use Rattle.attr_rules.specs.Known.{told}
use Rattle.attr_rules.proofs.macros.last_told.Given as goal

abbrev pub invariant-loop-rest : goal.invariant-loop-rest
invariant-loop-rest l = option_or (last_said (told l.known) l.rest) l.last ≡ last_said (told l.known) l.text

abbrev pub decreases-loop-rest : goal.decreases-loop-rest
decreases-loop-rest l = length l.rest
