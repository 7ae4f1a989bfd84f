use Rattle.std.proofs.Common.{sym, arith, length}
use Rattle.std.proofs.lemmas.Bool.{eq-eqb}
use Rattle.std.proofs.lemmas.List.Sums.{position_or_len_is}
use Rattle.seq_model.specs.Given.{is_equals}
use Rattle.seq_words.proofs.plain.equals_at.Goals as goal

pub returns-then-byte-eq61 : goal.returns-then-byte-eq61
returns-then-byte-eq61 c =
    sym (position_or_len_is is_equals c.args.word.now c.loop-n.n 0 (omega arith) c.loop-n.invariant (λ _. eq-eqb _ _ c.if-byte-eq61.true))

pub returns : goal.returns
returns c =
    sym (position_or_len_is is_equals c.args.word.now (length c.args.word.now) 0 (omega arith) (λ k h. c.loop-n.invariant k (omega arith)) (λ h. absurd (omega arith)))
