use Rattle.std.proofs.Common.{◌≡◌, drop}
use Rattle.attr_rules.specs.Attributes.{is_set}
use Rattle.attr_rules.specs.Known.{told}
use Rattle.attr_rules.proofs.macros.told.Given as goal

abbrev pub invariant-loop-one : goal.invariant-loop-one
invariant-loop-one l = (l.is_set ≡ is_set l.word) × (told (drop l.one-index l.known) l.word ≡ told l.known l.word)
