use Rattle.seq_step.proofs.Causing.{as_line}
use Rattle.seq_step.specs.Causes.{stop_failed}
use Rattle.seq_step.proofs.steps.exec_line.Goals as goal

pub returns-clause-follows : goal.returns-clause-follows
returns-clause-follows g c = λ told. rw c.as_slice.ensures at (c.exec.ensures.follows told)

pub returns-clause-cause : goal.returns-clause-cause
returns-clause-cause g c =
    as_line g.S.Store.told stop_failed c.exec.result (g.S.Store.seen c.args.store.now) (g.S.Store.seen c.exec.new.store)
    (g.P.Spawner.seen c.args.spawner.now) (g.P.Spawner.seen c.exec.new.spawner) c.exec.ensures.cause
