use Rattle.std.proofs.Common.{rules, ◌≡◌, ◌-◌, ◌<◌, List, ◌∷◌, ap, arith, drop, length, refl, subst, sym, take, ◌∙◌}
use Rattle.std.proofs.lemmas.Result.{err_from_is_err_and}
use Rattle.merge_base.specs.declared.graph.Node.{Node}
use Rattle.merge_base.specs.Graphs.{HasPlainSubjects, limit}
use Rattle.seq_outside.proofs.Firsts.{first_and_others}
use Rattle.history.specs.Loads.{each, loaded, walked}
use Rattle.history.proofs.Climbing.{loaded-each, tip_denies, tip_walked, tips_end}
use Rattle.history.proofs.Holding.{loaded_is_history}
use Rattle.history.proofs.Subjects.{none_plain}
use Rattle.history.proofs.loads.load.Goals as goal

pub loop-rest-init : goal.loop-rest-init
loop-rest-init g c =
    let w = (g.S.Store.seen c.args.store.now).content in
    record {
      left = λ told. ap (λ (graph : List Node). each (walked w limit) graph c.args.tips.now) c.new-graph.ensures ∙ loaded-each w c.args.tips.now;
      subjects = subst HasPlainSubjects (sym c.new-graph.ensures) none_plain;
      same = λ told. refl;
      cause = search rules;
    }

pub returns-in_err-walk-clause-gives : goal.returns-in_err-walk-clause-gives
returns-in_err-walk-clause-gives g c told =
    let w = (g.S.Store.seen c.args.store.now).content in
    let left = c.loop-rest.rest.now in
    let tip = c.tip-item.result in
    let after = take (length left - 1) (drop 1 left) in
    let some : 0 < length left = omega arith in
    let whole : left ≡ tip ∷ after = first_and_others left tip some c.tip-item.is in
    let p = err_from_is_err_and c.from_residual.result c.from_residual.ensures.1 in
    rw (p.1, p.2) (tip_denies w (g.S.Store.seen c.loop-rest.store).content c.loop-rest.graph tip left after c.in_err-walk.field-0.0 _ (c.loop-rest.invariant.same told) whole (c.loop-rest.invariant.left told) (c.in_err-walk.ensures.gives told))

pub loop-rest-preserved : goal.loop-rest-preserved
loop-rest-preserved g c =
    let w = (g.S.Store.seen c.args.store.now).content in
    let left = c.loop-rest.rest.now in
    let tip = c.tip-item.result in
    let after = take (length left - 1) (drop 1 left) in
    let some : 0 < length left = omega arith in
    let whole : left ≡ tip ∷ after = first_and_others left tip some c.tip-item.is in
    record {
      left =
          λ told. tip_walked w (g.S.Store.seen c.loop-rest.store).content c.loop-rest.graph c.walk.new.graph tip left after _ (c.loop-rest.invariant.same told) whole (c.loop-rest.invariant.left told) (c.in_ok-walk.ensures.gives told);
      subjects = c.in_ok-walk.ensures.subjects c.loop-rest.invariant.subjects;
      same = λ told. c.in_ok-walk.ensures.reads.0 told ∙ c.loop-rest.invariant.same told;
      cause = search rules;
    }

pub returns-clause-gives : goal.returns-clause-gives
returns-clause-gives g c told =
    tips_end (g.S.Store.seen c.args.store.now).content c.loop-rest.graph c.loop-rest.rest.now _ (omega arith) (c.loop-rest.invariant.left told)

pub returns-clause-history : goal.returns-clause-history
returns-clause-history g c told =
    let w = (g.S.Store.seen c.args.store.now).content in
    loaded_is_history w c.args.tips.now c.loop-rest.graph (tips_end w c.loop-rest.graph c.loop-rest.rest.now (loaded w c.args.tips.now) (omega arith) (c.loop-rest.invariant.left told))
