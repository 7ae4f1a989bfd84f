use Rattle.std.proofs.Common.{arith}
use Rattle.attr_rules.specs.Known.{told}
use Rattle.attr_rules.proofs.Says.{lines_more, lines_end}
use Rattle.attr_rules.proofs.merging.lines_say.Goals as goal

pub loop-rest-preserved : goal.loop-rest-preserved
loop-rest-preserved c =
    lines_more (told c.args.known.now) c.args.path.now c.loop-rest.rest.now c.args.lines.now c.line-item.result c.loop-rest.last c.in_ok-line_says.field-0 c.or-last.result
    (omega arith) c.line-item.is c.in_ok-line_says.ensures c.or-last.ensures c.loop-rest.invariant

pub returns : goal.returns
returns c =
    lines_end (told c.args.known.now) c.args.path.now c.loop-rest.rest.now c.args.lines.now c.loop-rest.last c.in_default.len_below c.loop-rest.invariant
