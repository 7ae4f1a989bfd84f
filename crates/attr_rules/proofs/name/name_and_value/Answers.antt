use Rattle.std.proofs.Common.{◌∙◌, ◌+◌, arith}
use Rattle.std.proofs.lemmas.Bool.{eq-eqb}
use Rattle.std.proofs.lemmas.List.{take_rest}
use Rattle.attr_rules.specs.Names.{is_equals}
use Rattle.attr_rules.proofs.Parts.{before_at, after_at, before_none, after_none}
use Rattle.attr_rules.proofs.name.name_and_value.Goals as goal

pub returns-then-byte-eq61-clause-before : goal.returns-then-byte-eq61-clause-before
returns-then-byte-eq61-clause-before c =
    before_at is_equals c.args.word.now c.loop-n.n c.loop-n-test.true c.loop-n.invariant (eq-eqb _ _ c.if-byte-eq61.true)

pub returns-then-byte-eq61-clause-behind : goal.returns-then-byte-eq61-clause-behind
returns-then-byte-eq61-clause-behind c =
    take_rest c.args.word.now (c.loop-n.n + 1)
    ∙ after_at is_equals c.args.word.now c.loop-n.n c.loop-n-test.true c.loop-n.invariant (eq-eqb _ _ c.if-byte-eq61.true)

pub returns-clause-before : goal.returns-clause-before
returns-clause-before c = before_none is_equals c.args.word.now (λ k h. c.loop-n.invariant k (omega arith))

pub returns-clause-behind : goal.returns-clause-behind
returns-clause-behind c = after_none is_equals c.args.word.now (λ k h. c.loop-n.invariant k (omega arith))
