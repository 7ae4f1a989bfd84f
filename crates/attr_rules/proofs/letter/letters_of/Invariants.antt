use Rattle.std.proofs.Common.{◌≡◌, false, drop}
use Rattle.attr_rules.specs.Letters.{led_by, letters_from}
use Rattle.attr_rules.proofs.letter.letters_of.Given as goal

abbrev pub invariant-loop-byte : goal.invariant-loop-byte
invariant-loop-byte l = led_by l.letters.items (letters_from l.quoted (drop l.byte-index l.pattern)) ≡ letters_from false l.pattern
