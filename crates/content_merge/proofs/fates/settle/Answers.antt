use Rattle.std.proofs.Common.{rules, arith, ◌≡◌, ◌++◌, ◌∷◌, [], ap, ◌∙◌}
use Rattle.content_merge.specs.Fates.{settled}
use Rattle.content_merge.proofs.Ends.{first_and_others, others_are, settles_on}
use Rattle.content_merge.proofs.fates.settle.Goals as goal

pub loop-rest-preserved : goal.loop-rest-preserved
loop-rest-preserved c =
    let pushed : c.push.new.self.items ≡ c.loop-rest.all.items ++ c.in_ok-settle_row.field-0 ∷ [] = search rules in
    settles_on c.row-item.result c.loop-rest.rest.now _ c.loop-rest.driven.now c.others-driven.result.now c.loop-rest.left.items c.next_end-end.new.ends.items
    c.push.new.self.items c.loop-rest.all.items _ c.in_ok-settle_row.field-0
    (first_and_others c.loop-rest.rest.now c.row-item.result (omega (arith, c.in-len1-up.len_at_least)) c.row-item.is)
    (others_are c.loop-rest.rest.now) (c.in_ok-settle_row.ensures ∙ ap (settled c.row-item.result) c.next_end-end.ensures.end) pushed
    c.others-driven.ensures c.next_end-end.ensures.rest c.loop-rest.invariant
