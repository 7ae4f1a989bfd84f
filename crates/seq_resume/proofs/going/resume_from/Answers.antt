use Rattle.seq_step.proofs.Causing.{as_line}
use Rattle.seq_step.specs.Causes.{stop_failed}
use Rattle.seq_resume.proofs.going.resume_from.Goals as goal

pub returns-clause-cause : goal.returns-clause-cause
returns-clause-cause g c =
    as_line g.S.Store.told stop_failed c.act.result (g.S.Store.seen c.args.store.now) (g.S.Store.seen c.act.new.store)
    (g.P.Spawner.seen c.args.spawner.now) (g.P.Spawner.seen c.act.new.spawner) c.act.ensures.cause
