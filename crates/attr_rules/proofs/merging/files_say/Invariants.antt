use Rattle.std.proofs.Common.{length, Option}
use Rattle.std.specs.Option.{option_or}
use Rattle.attr_rules.specs.declared.attribute.MergeAttr.{MergeAttr}
use Rattle.attr_rules.specs.Known.{told}
use Rattle.attr_rules.specs.MergeAttrs.{FilesSay}
use Rattle.attr_rules.proofs.merging.files_say.Given as goal

abbrev pub invariant-loop-rest : goal.invariant-loop-rest
invariant-loop-rest l =
    (others : Option MergeAttr) → FilesSay (told l.known) l.path l.rest others → FilesSay (told l.known) l.path l.files (option_or l.first others)

abbrev pub decreases-loop-rest : goal.decreases-loop-rest
decreases-loop-rest l = length l.rest
