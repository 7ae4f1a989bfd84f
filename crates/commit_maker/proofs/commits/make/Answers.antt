use Rattle.std.specs.Prelude.{Bool, false, ◌||◌}
use Rattle.commit_maker.proofs.Within.{follows_within}
use Rattle.commit_maker.specs.Commits.{commit_does, committed}
use Rattle.commit_maker.proofs.commits.make.Goals as goal

pub returns-clause-follows : goal.returns-clause-follows
unfolding committed
returns-clause-follows g c told =
    rw c.has_run.ensures (follows_within g.P.Spawner.ran g.C.Clock.ticked c.args.spawner.now c.args.clock.now c.commit-made.new.spawner c.commit-made.new.clock
    (λ (unseen : Bool). false) (λ (ran unseen : Bool). unseen || ran) (λ made. made) (commit_does c.args.config.now c.args.env.now c.args.making.now)
    (g.S.Store.seen c.args.store.now).content (g.S.Store.seen c.commit-made.new.store).content c.args.unseen.now c.commit-made.new.ran c.commit-made.result
    (c.commit-made.ensures.follows told))
