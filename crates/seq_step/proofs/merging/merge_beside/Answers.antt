use Rattle.commit_maker.proofs.Within.{follows_within}
use Rattle.line_steps.specs.Making.{merges_by}
use Rattle.line_steps.specs.Picks.{no_place, same_place}
use Rattle.seq_step.specs.Finding.{sides_is}
use Rattle.seq_step.proofs.merging.merge_beside.Goals as goal

pub returns-clause-follows : goal.returns-clause-follows
returns-clause-follows g c told =
    follows_within g.P.Spawner.ran g.C.Clock.ticked c.args.spawner.now c.args.clock.now c.merge.new.spawner c.args.clock.now
    no_place same_place (λ m. m) (merges_by c.args.setting.now (sides_is c.args.at.now c.args.sides.now))
    (g.S.Store.seen c.args.store.now).content (g.S.Store.seen c.merge.new.store).content c.args.place.now tt c.merge.result
    (c.merge.ensures.follows told)
