use Rattle.std.proofs.Common.{◌≡◌, [], ◌∷◌, reverse, subst, sym, ap}
use Rattle.std.proofs.lemmas.Result.{IfOk-weaker}
use Rattle.history.specs.Walks.{HasMet, Walks}
use Rattle.history.proofs.Ranging.{Ids, tip_met, tip_passed}
use Rattle.history.proofs.ranges.visit.Goals as goal

pub returns-in-None-clause-met : goal.returns-in-None-clause-met
returns-in-None-clause-met c =
    subst (HasMet c.args.graph.now c.args.ids.now.items (c.args.tip ∷ []) c.args.marks.now.items c.args.ids.now.items) (sym c.in-None.ensures.marks)
    (tip_passed c.args.graph.now c.args.ids.now.items c.args.tip c.args.marks.now.items c.requires.tip (sym c.in-None.ensures.found))

pub returns-in_ok-vec-in-Some-clause-met : goal.returns-in_ok-vec-in-Some-clause-met
returns-in_ok-vec-in-Some-clause-met c =
    let graph = c.args.graph.now in
    let ids = c.args.ids.now.items in
    let waiting : reverse c.in_ok-vec-in-Some.field-0.items ≡ c.in-Some.first ∷ [] = ap reverse c.in_ok-vec-in-Some.ensures.items in
    IfOk-weaker c.climb.result (λ done. Walks graph ids (reverse c.in_ok-vec-in-Some.field-0.items) c.enter.new.marks.items c.climb.new.ids.items [] c.climb.new.marks.items)
    (λ done. HasMet graph ids (c.args.tip ∷ []) c.args.marks.now.items c.climb.new.ids.items c.climb.new.marks.items)
    (λ done walked. tip_met graph ids c.args.tip c.in-Some.first c.args.marks.now.items c.enter.new.marks.items c.climb.new.ids.items c.climb.new.marks.items c.requires.graph c.requires.tip (sym c.in-Some.ensures.found) c.in-Some.ensures.marks
    (subst (λ (w : Ids). Walks graph ids w c.enter.new.marks.items c.climb.new.ids.items [] c.climb.new.marks.items) waiting walked)) c.climb.ensures.walks
