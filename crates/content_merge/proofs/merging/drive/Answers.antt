use Rattle.content_merge.proofs.Driving.{follows_ended, follows_unrun, still_ended, still_fault, still_memory, still_unrun}
use Rattle.content_merge.proofs.merging.drive.Goals as goal

pub returns-in-Ok-clause-follows : goal.returns-in-Ok-clause-follows
returns-in-Ok-clause-follows g c =
    follows_ended g.P.Spawner.ran g.C.Clock.ticked g.S.Store.told c.args.jobs.now c.args.spawner.now c.run_drivers.new.spawner c.args._clock.now (g.S.Store.seen c.args.store.now) (g.S.Store.seen c.run_drivers.new.store)
    c.in-Ok.ends c.in-Ok.ensures.runs

pub returns-in-Err-Child-clause-follows : goal.returns-in-Err-Child-clause-follows
returns-in-Err-Child-clause-follows g c =
    follows_unrun g.P.Spawner.ran g.C.Clock.ticked g.S.Store.told c.args.jobs.now c.args.spawner.now c.run_drivers.new.spawner c.args._clock.now (g.S.Store.seen c.args.store.now) (g.S.Store.seen c.run_drivers.new.store)
    c.in-Err-Child.field-0 c.in-Err-Child.field-0-is c.in-Err-Child.ensures.runs

pub returns-in-Ok-clause-still : goal.returns-in-Ok-clause-still
returns-in-Ok-clause-still g c =
    still_ended g.P.Spawner.ran g.S.Store.told c.args.jobs.now c.args.spawner.now c.run_drivers.new.spawner (g.S.Store.seen c.args.store.now) (g.S.Store.seen c.run_drivers.new.store) c.in-Ok.ends c.in-Ok.ensures.runs

pub returns-in-Err-Child-clause-still : goal.returns-in-Err-Child-clause-still
returns-in-Err-Child-clause-still g c =
    still_unrun g.P.Spawner.ran g.S.Store.told c.args.jobs.now c.args.spawner.now c.run_drivers.new.spawner (g.S.Store.seen c.args.store.now) (g.S.Store.seen c.run_drivers.new.store)
    c.in-Err-Child.field-0 c.in-Err-Child.field-0-is c.in-Err-Child.ensures.runs

pub returns-in-Err-Fault-clause-still : goal.returns-in-Err-Fault-clause-still
returns-in-Err-Fault-clause-still g c =
    still_fault g.P.Spawner.ran g.S.Store.told c.args.jobs.now c.args.spawner.now c.run_drivers.new.spawner (g.S.Store.seen c.args.store.now) (g.S.Store.seen c.run_drivers.new.store)
    c.in-Err-Fault.field-0 c.in-Err-Fault.ensures.runs

pub returns-in-Err-Blocked-clause-still : goal.returns-in-Err-Blocked-clause-still
returns-in-Err-Blocked-clause-still g c =
    still_fault g.P.Spawner.ran g.S.Store.told c.args.jobs.now c.args.spawner.now c.run_drivers.new.spawner (g.S.Store.seen c.args.store.now) (g.S.Store.seen c.run_drivers.new.store)
    c.in-Err-Blocked.field-0 c.in-Err-Blocked.ensures.runs

pub returns-in-Err-Memory-clause-still : goal.returns-in-Err-Memory-clause-still
returns-in-Err-Memory-clause-still g c =
    still_memory g.P.Spawner.ran g.S.Store.told c.args.jobs.now c.args.spawner.now c.run_drivers.new.spawner (g.S.Store.seen c.args.store.now) (g.S.Store.seen c.run_drivers.new.store)
    c.in-Err-Memory.field-0 c.in-Err-Memory.field-0-is c.in-Err-Memory.ensures.runs
