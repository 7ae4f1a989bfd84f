use Rattle.std.proofs.lemmas.Fn.{always_returns_same}
use Rattle.stage_index.proofs.Tracking.{found_at, missing_at, order_by, rises, tracked_at, untracked_at}
use Rattle.stage_index.proofs.lookup.tracked.Goals as goal

pub returns-in-Ok-clause-tracked : goal.returns-in-Ok-clause-tracked
returns-in-Ok-clause-tracked c =
    tracked_at c.args.index.now c.args.path.now c.in-Ok.n c.index-index-n.result c.in-Ok.ensures.bound c.index-index-n.is (c.in-Ok.ensures.position (order_by c.args.path.now) (always_returns_same _ _ _ (λ a r f k. k.met)))

pub returns-in-Ok-clause-entry : goal.returns-in-Ok-clause-entry
returns-in-Ok-clause-entry c =
    found_at c.args.index.now c.args.path.now c.in-Ok.n c.index-index-n.result c.requires c.in-Ok.ensures.bound c.index-index-n.is (c.in-Ok.ensures.position (order_by c.args.path.now) (always_returns_same _ _ _ (λ a r f k. k.met)))

pub returns-in-Err-clause-tracked : goal.returns-in-Err-clause-tracked
returns-in-Err-clause-tracked c =
    untracked_at c.args.index.now c.args.path.now c.in-Err.field-0 (c.in-Err.ensures.position (order_by c.args.path.now) (always_returns_same _ _ _ (λ a r f k. k.met)) (rises c.args.index.now c.args.path.now c.requires))

pub returns-in-Err-clause-entry : goal.returns-in-Err-clause-entry
returns-in-Err-clause-entry c =
    missing_at c.args.index.now c.args.path.now c.in-Err.field-0 (c.in-Err.ensures.position (order_by c.args.path.now) (always_returns_same _ _ _ (λ a r f k. k.met)) (rises c.args.index.now c.args.path.now c.requires))
