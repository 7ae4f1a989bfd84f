use Rattle.std.proofs.Common.{◌∙◌, ◌+◌, sym, arith}
use Rattle.std.proofs.lemmas.List.{take_rest}
use Rattle.attr_rules.proofs.Parts.{before_at, after_at, before_none, after_none}
use Rattle.attr_rules.proofs.cut.first_word.Goals as goal
use Rattle.seq_base.specs.Blanks.{is_blank}

pub returns-then-is_blank-clause-before : goal.returns-then-is_blank-clause-before
returns-then-is_blank-clause-before c =
    before_at is_blank c.args.text.now c.loop-n.n c.loop-n-test.true c.loop-n.invariant (sym c.is_blank.ensures ∙ c.if-is_blank.true)

pub returns-then-is_blank-clause-behind : goal.returns-then-is_blank-clause-behind
returns-then-is_blank-clause-behind c =
    take_rest c.args.text.now (c.loop-n.n + 1)
    ∙ after_at is_blank c.args.text.now c.loop-n.n c.loop-n-test.true c.loop-n.invariant (sym c.is_blank.ensures ∙ c.if-is_blank.true)

pub returns-clause-before : goal.returns-clause-before
returns-clause-before c = before_none is_blank c.args.text.now (λ k h. c.loop-n.invariant k (omega arith))

pub returns-clause-behind : goal.returns-clause-behind
returns-clause-behind c = after_none is_blank c.args.text.now (λ k h. c.loop-n.invariant k (omega arith))
