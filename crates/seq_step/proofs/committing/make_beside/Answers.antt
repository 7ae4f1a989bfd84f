use Rattle.commit_maker.proofs.Within.{follows_within}
use Rattle.line_steps.specs.Making.{commits_by}
use Rattle.line_steps.specs.Places.{with_unseen}
use Rattle.line_steps.specs.declared.place.Place.{Place}
use Rattle.seq_step.proofs.committing.make_beside.Goals as goal

pub returns-clause-follows : goal.returns-clause-follows
returns-clause-follows g c told =
    follows_within g.P.Spawner.ran g.C.Clock.ticked c.args.spawner.now c.args.clock.now c.make.new.spawner c.make.new.clock
    (λ (p : Place). p.unseen) with_unseen (λ made. made) (commits_by c.args.setting.now c.args.making.now)
    (g.S.Store.seen c.args.store.now).content (g.S.Store.seen c.make.new.store).content c.args.place.now c.make.new.unseen c.make.result
    (c.make.ensures.follows told)
