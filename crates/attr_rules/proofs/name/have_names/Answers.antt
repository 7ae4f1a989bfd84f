use Rattle.std.proofs.Common.{sym, ◌∙◌}
use Rattle.attr_rules.proofs.Parts.{name_kept, name_lost}
use Rattle.attr_rules.proofs.name.have_names.Goals as goal

pub returns-then-not-has_name : goal.returns-then-not-has_name
returns-then-not-has_name c =
    sym (sym c.loop-rest.invariant ∙ name_lost c.loop-rest.rest.now c.first_word.result.0.now c.first_word.result.1.now c.first_word.ensures.before c.first_word.ensures.behind (sym c.has_name.ensures ∙ c.if-not-has_name.true))

pub loop-rest-preserved : goal.loop-rest-preserved
loop-rest-preserved c =
    name_kept c.loop-rest.rest.now c.first_word.result.0.now c.first_word.result.1.now c.first_word.ensures.before c.first_word.ensures.behind (sym c.has_name.ensures ∙ c.if-not-has_name.false) ∙ c.loop-rest.invariant
