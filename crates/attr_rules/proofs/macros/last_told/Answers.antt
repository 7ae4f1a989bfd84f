use Rattle.std.proofs.Common.{◌≡◌, ◌∙◌, length, ap, arith, Option}
use Rattle.std.specs.Option.{option_or}
use Rattle.std.proofs.lemmas.Grind.{common_steps}
use Rattle.attr_rules.specs.declared.attribute.MergeAttr.{MergeAttr}
use Rattle.attr_rules.specs.Attributes.{last_said}
use Rattle.attr_rules.specs.Known.{told}
use Rattle.attr_rules.proofs.Words.{last_more, last_at_end}
use Rattle.attr_rules.proofs.macros.last_told.Goals as goal

pub loop-rest-preserved : goal.loop-rest-preserved
loop-rest-preserved c =
    ap (λ (o : Option MergeAttr). option_or (last_said (told c.args.known.now) c.first_word.result.1.now) o)
    (c.or-last.ensures ∙ ap (λ (o : Option MergeAttr). option_or o c.loop-rest.last) c.in_ok-told.ensures)
    ∙ last_more c.args.known.now c.loop-rest.rest.now c.first_word.result.0.now c.first_word.result.1.now c.loop-rest.last c.first_word.ensures.before c.first_word.ensures.behind
    ∙ c.loop-rest.invariant

pub returns : goal.returns
returns c =
    let at_end : length c.loop-rest.rest.now ≡ 0 = grind (arith, common_steps) in
    last_at_end c.args.known.now c.loop-rest.rest.now c.loop-rest.last at_end ∙ c.loop-rest.invariant
