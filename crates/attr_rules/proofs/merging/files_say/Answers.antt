use Rattle.std.proofs.Common.{arith}
use Rattle.attr_rules.specs.Known.{told}
use Rattle.attr_rules.proofs.Says.{files_more, files_end}
use Rattle.attr_rules.proofs.merging.files_say.Goals as goal

pub loop-rest-preserved : goal.loop-rest-preserved
loop-rest-preserved c =
    files_more (told c.args.known.now) c.args.path.now c.loop-rest.rest.now c.args.files.now c.file-item.result c.loop-rest.first c.in_ok-here.here c.or-first.result
    (omega arith) c.file-item.is c.in_ok-here.ensures c.or-first.ensures c.loop-rest.invariant

pub returns : goal.returns
returns c =
    files_end (told c.args.known.now) c.args.path.now c.loop-rest.rest.now c.args.files.now c.loop-rest.first c.in_default.len_below c.loop-rest.invariant
