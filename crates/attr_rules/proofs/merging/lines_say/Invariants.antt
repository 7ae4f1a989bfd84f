use Rattle.std.proofs.Common.{length, Option}
use Rattle.std.specs.Option.{option_or}
use Rattle.attr_rules.specs.declared.attribute.MergeAttr.{MergeAttr}
use Rattle.attr_rules.specs.Known.{told}
use Rattle.attr_rules.specs.MergeAttrs.{LinesSay}
use Rattle.attr_rules.proofs.merging.lines_say.Given as goal

abbrev pub invariant-loop-rest : goal.invariant-loop-rest
invariant-loop-rest l =
    (later : Option MergeAttr) → LinesSay (told l.known) l.path l.rest later → LinesSay (told l.known) l.path l.lines (option_or later l.last)

abbrev pub decreases-loop-rest : goal.decreases-loop-rest
decreases-loop-rest l = length l.rest
