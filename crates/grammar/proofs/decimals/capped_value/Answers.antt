use Rattle.std.proofs.Common.{arith}
use Rattle.grammar.proofs.DecimalLaws.{capped_more}
use Rattle.grammar.proofs.decimals.capped_value.Goals as goal

pub loop-b-preserved : goal.loop-b-preserved
loop-b-preserved c =
    let more = capped_more c.args.digits.now c.loop-b.b-index c.loop-b-test.true c.requires in
    let before = c.loop-b.invariant in
    let times = c.saturating_mul.ensures in
    let plus = c.saturating_add-value.ensures in
    omega arith
