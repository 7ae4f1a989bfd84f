use Rattle.std.proofs.Common.{◌∙◌, sym, arith}
use Rattle.seq_words.proofs.Ends.{last_other, last_return}
use Rattle.seq_words.proofs.value.without_returns.Goals as goal

pub returns-then-not-is_return : goal.returns-then-not-is_return
returns-then-not-is_return c =
    sym (last_other c.loop-rest.rest.now (omega (arith, c.in-len1-up.len_at_least)) (sym c.is_return.ensures ∙ c.if-not-is_return.true))
    ∙ c.loop-rest.invariant

pub loop-rest-preserved : goal.loop-rest-preserved
loop-rest-preserved c =
    last_return c.loop-rest.rest.now (omega (arith, c.in-len1-up.len_at_least)) (sym c.is_return.ensures ∙ c.if-not-is_return.false)
    ∙ c.loop-rest.invariant
