use Rattle.driver_pool.proofs.Driving.{behind_cause, behind_removal}
use Rattle.driver_pool.proofs.pool.run_driver.Goals as goal

pub returns-clause-drives : goal.returns-clause-drives
returns-clause-drives g c =
    rw c.behind.ensures
    record {
      by =
          behind_removal g.S.Store.told g.P.Spawner.ran c.args.number c.args.job.now c.args.spawner.now (g.S.Store.seen c.args.store.now) _ _ _ _ _ c.run_child-end.ensures.drives
          c.remove_files-removed.ensures.removed c.remove_files-removed.ensures.no_child c.remove_files-removed.ensures.not_blocked c.remove_files-removed.ensures.writes;
    }

pub returns-clause-cause : goal.returns-clause-cause
returns-clause-cause g c =
    rw c.behind.ensures
    (behind_cause g.S.Store.told _ _ _ _ _ _ _ c.run_child-end.ensures.cause c.remove_files-removed.ensures.no_child c.remove_files-removed.ensures.not_blocked
    c.remove_files-removed.ensures.writes)
