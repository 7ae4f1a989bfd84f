use Rattle.std.proofs.Common.{◌≡◌, ◌-◌, ◌<◌, ◌∷◌, ap, arith, drop, length, subst, sym, take, ◌∙◌}
use Rattle.merge_base.specs.Graphs.{first_missing}
use Rattle.seq_outside.proofs.Firsts.{first_and_others}
use Rattle.history.proofs.Ranging.{HasMetTo, Ids, all_met, missing_first, nothing_left, one_met}
use Rattle.history.proofs.ranges.walk.Goals as goal

pub loop-rest-preserved : goal.loop-rest-preserved
loop-rest-preserved c =
    let graph = c.args.graph.now in
    let left = c.loop-rest.rest.now in
    let tip = c.tip-item.result in
    let after = take (length left - 1) (drop 1 left) in
    let some : 0 < length left = omega arith in
    let whole : left ≡ tip ∷ after = first_and_others left tip some c.tip-item.is in
    let missing = missing_first graph tip after (ap (first_missing graph) (sym whole) ∙ c.loop-rest.invariant.there) in
    record {
      length_is = c.in_ok-visit.ensures.length;
      there = missing.1;
      met =
          one_met graph c.args.tips.now tip after c.args.marks.now.items c.loop-rest.ids.items c.loop-rest.marks.items c.visit.new.ids.items c.visit.new.marks.items
          (subst (λ (r : Ids). HasMetTo graph c.args.tips.now r c.args.marks.now.items c.loop-rest.ids.items c.loop-rest.marks.items) whole c.loop-rest.invariant.met) c.in_ok-visit.ensures.met;
    }

pub returns-clause-met : goal.returns-clause-met
returns-clause-met c =
    let none = nothing_left c.loop-rest.rest.now (omega arith) in
    all_met c.args.graph.now c.args.tips.now c.args.marks.now.items c.loop-rest.ids.items c.loop-rest.marks.items
    (subst (λ (r : Ids). HasMetTo c.args.graph.now c.args.tips.now r c.args.marks.now.items c.loop-rest.ids.items c.loop-rest.marks.items) none c.loop-rest.invariant.met)
