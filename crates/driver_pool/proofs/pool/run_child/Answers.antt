use Rattle.std.proofs.Common.{ap, ◌∙◌}
use Rattle.child_jobs.specs.Jobs.{exec_of}
use Rattle.driver_pool.proofs.Driving.{child_ends, child_fails, child_meets_fault, child_wants_memory}
use Rattle.driver_pool.proofs.pool.run_child.Goals as goal

pub returns-in-Ok-clause-drives : goal.returns-in-Ok-clause-drives
returns-in-Ok-clause-drives g c =
    child_ends g.S.Store.told g.P.Spawner.ran c.args.number c.args.job.now c.args.spawner.now (g.S.Store.seen c.args.store.now)
    c.in_ok-child.child (g.S.Store.seen c.put_files.new.store) (c.in_ok-child.ensures ∙ ap exec_of c.as_slice.ensures) c.in_ok-put_files.ensures.put c.in_ok-put_files.ensures.writes.0
    c.in-Ok.exit _ (g.S.Store.seen c.run.new.store) _ c.read_end.result c.in-Ok.ensures.runs c.in-Ok.ensures.store c.read_end.ensures.end c.read_end.ensures.reads c.read_end.ensures.no_child

pub returns-in-Err-Failed-clause-drives : goal.returns-in-Err-Failed-clause-drives
returns-in-Err-Failed-clause-drives g c =
    child_fails g.S.Store.told g.P.Spawner.ran c.args.number c.args.job.now c.args.spawner.now (g.S.Store.seen c.args.store.now)
    c.in_ok-child.child (g.S.Store.seen c.put_files.new.store) (c.in_ok-child.ensures ∙ ap exec_of c.as_slice.ensures) c.in_ok-put_files.ensures.put c.in_ok-put_files.ensures.writes.0
    c.in-Err-Failed.field-0 c.in-Err-Failed.field-0-is _ (g.S.Store.seen c.run.new.store) c.in-Err-Failed.ensures.runs c.in-Err-Failed.ensures.store

pub returns-in-Err-Store-clause-drives : goal.returns-in-Err-Store-clause-drives
returns-in-Err-Store-clause-drives g c =
    child_meets_fault g.S.Store.told g.P.Spawner.ran c.args.number c.args.job.now c.args.spawner.now (g.S.Store.seen c.args.store.now)
    c.in_ok-child.child (g.S.Store.seen c.put_files.new.store) (c.in_ok-child.ensures ∙ ap exec_of c.as_slice.ensures) c.in_ok-put_files.ensures.put c.in_ok-put_files.ensures.writes.0
    c.in-Err-Store.field-0 c.in-Err-Store.field-0-is _ (g.S.Store.seen c.run.new.store) c.in-Err-Store.ensures.runs

pub returns-clause-drives : goal.returns-clause-drives
returns-clause-drives g c =
    child_wants_memory g.S.Store.told g.P.Spawner.ran c.args.number c.args.job.now c.args.spawner.now (g.S.Store.seen c.args.store.now)
    c.in_ok-child.child (g.S.Store.seen c.put_files.new.store) (c.in_ok-child.ensures ∙ ap exec_of c.as_slice.ensures) c.in_ok-put_files.ensures.put c.in_ok-put_files.ensures.writes.0
    c.in-Err-Memory.field-0 c.in-Err-Memory.field-0-is _ (g.S.Store.seen c.run.new.store) c.in-Err-Memory.ensures.runs c.in-Err-Memory.ensures.store
