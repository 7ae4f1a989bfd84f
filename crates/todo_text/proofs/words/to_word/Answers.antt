use Rattle.std.proofs.Common.{◌∙◌, sym, arith}
use Rattle.todo_text.proofs.WordLemmas.{last_blank, last_word}
use Rattle.todo_text.proofs.words.to_word.Goals as goal

pub returns-then-not-is_blank : goal.returns-then-not-is_blank
returns-then-not-is_blank c =
    sym (last_word c.loop-rest.rest.now (omega (arith, c.in-len1-up.len_at_least)) (sym c.is_blank.ensures ∙ c.if-not-is_blank.true))
    ∙ c.loop-rest.invariant

pub loop-rest-preserved : goal.loop-rest-preserved
loop-rest-preserved c =
    last_blank c.loop-rest.rest.now (omega (arith, c.in-len1-up.len_at_least)) (sym c.is_blank.ensures ∙ c.if-not-is_blank.false)
    ∙ c.loop-rest.invariant
