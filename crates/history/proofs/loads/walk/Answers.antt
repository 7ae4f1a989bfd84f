use Rattle.std.proofs.Common.{◌≡◌, false, true}
use Rattle.std.proofs.lemmas.Result.{err_from_is_err_and}
use Rattle.merge_base.specs.Graphs.{has, limit}
use Rattle.history.proofs.Climbing.{walk_denies, walk_gives}
use Rattle.history.proofs.Growing.{walked_there}
use Rattle.history.proofs.loads.walk.Goals as goal

pub returns-then-is_some-clause-gives : goal.returns-then-is_some-clause-gives
returns-then-is_some-clause-gives g c told =
    let there : has c.args.graph.now c.args.id ≡ true = cc in
    walked_there (g.S.Store.seen c.args.store.now).content limit c.args.graph.now c.args.id there

pub returns-in_err-node-clause-gives : goal.returns-in_err-node-clause-gives
returns-in_err-node-clause-gives g c told =
    let new : has c.args.graph.now c.args.id ≡ false = cc in
    let p = err_from_is_err_and c.from_residual.result c.from_residual.ensures.1 in
    rw (p.1, p.2) (walk_denies (g.S.Store.seen c.args.store.now).content c.args.graph.now c.args.id c.in_err-node.field-0.0 new (c.in_err-node.ensures.gives told))

pub returns-clause-gives : goal.returns-clause-gives
returns-clause-gives g c told =
    let new : has c.args.graph.now c.args.id ≡ false = cc in
    walk_gives (g.S.Store.seen c.args.store.now).content _ c.args.graph.now c.args.id c.in_ok-node.node c.in_ok-vec.field-0.items c.climb.result c.climb.new.graph (c.in_ok-node.ensures.reads.0 told) new
    (c.in_ok-node.ensures.gives told) c.in_ok-vec.ensures.items (c.climb.ensures.gives told)
