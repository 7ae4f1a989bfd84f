use Rattle.std.proofs.Common.{rules, arith, ◌≡◌, ◌+◌, ◌++◌, ◌∷◌, [], drop}
use Rattle.driver_pool.proofs.Running.{IsSoFar, ends_at, ends_full, ends_well, first_job, goes_on_behind, others_are, restated}
use Rattle.driver_pool.proofs.pool.run_drivers.Goals as goal

pub returns-in_default-push-clause-runs : goal.returns-in_default-push-clause-runs
returns-in_default-push-clause-runs g c =
    ends_full g.S.Store.told g.P.Spawner.ran c.args.jobs.now c.args.spawner.now (g.S.Store.seen c.args.store.now)
    _ _ _ _ (g.S.Store.seen c.loop-rest.store) c.loop-rest.invariant.so_far
    c.job-item.result (drop 1 c.loop-rest.rest.now)
    c.in-Ok.end _ (g.S.Store.seen c.run_driver.new.store) (first_job c.loop-rest.rest.now c.job-item.result (omega (arith, c.in-len1-up.len_at_least)) c.job-item.is) c.in-Ok.ensures.drives

pub returns-in-Err-clause-runs : goal.returns-in-Err-clause-runs
returns-in-Err-clause-runs g c =
    ends_at g.S.Store.told g.P.Spawner.ran c.args.jobs.now c.args.spawner.now (g.S.Store.seen c.args.store.now)
    _ _ _ _ (g.S.Store.seen c.loop-rest.store) c.loop-rest.invariant.so_far
    c.job-item.result (drop 1 c.loop-rest.rest.now)
    c.in-Err.fault _ (g.S.Store.seen c.run_driver.new.store) (first_job c.loop-rest.rest.now c.job-item.result (omega (arith, c.in-len1-up.len_at_least)) c.job-item.is) c.in-Err.ensures.drives

pub loop-rest-preserved : goal.loop-rest-preserved
loop-rest-preserved g c =
    let pushed : c.push.new.self.items ≡ c.loop-rest.ends.items ++ c.in-Ok.end ∷ [] = search rules in
    let next : IsSoFar g.S.Store.told g.P.Spawner.ran c.args.jobs.now c.args.spawner.now (g.S.Store.seen c.args.store.now)
    (c.loop-rest.ends.items ++ c.in-Ok.end ∷ []) (c.loop-rest.number + 1) (drop 1 c.loop-rest.rest.now) c.run_driver.new.spawner (g.S.Store.seen c.run_driver.new.store) =
    goes_on_behind g.S.Store.told g.P.Spawner.ran c.args.jobs.now c.args.spawner.now (g.S.Store.seen c.args.store.now)
    _ _ _ _ (g.S.Store.seen c.loop-rest.store) c.loop-rest.invariant.so_far
    c.job-item.result (drop 1 c.loop-rest.rest.now)
    c.in-Ok.end _ (g.S.Store.seen c.run_driver.new.store) (first_job c.loop-rest.rest.now c.job-item.result (omega (arith, c.in-len1-up.len_at_least)) c.job-item.is) c.in-Ok.ensures.drives in
    record {
      so_far =
          restated g.S.Store.told g.P.Spawner.ran c.args.jobs.now c.args.spawner.now (g.S.Store.seen c.args.store.now) _ _ _ _ _ _ _ pushed (others_are c.loop-rest.rest.now) next;
      number = search (rules, c.loop-rest.invariant.number);
      store = search (rules, c.loop-rest.invariant.store, c.in-Ok.ensures.cause);
      children = search (rules, c.loop-rest.invariant.children, c.in-Ok.ensures.cause);
    }

pub returns-clause-runs : goal.returns-clause-runs
returns-clause-runs g c =
    ends_well g.S.Store.told g.P.Spawner.ran c.args.jobs.now c.args.spawner.now (g.S.Store.seen c.args.store.now) _ _ _ _ _ (omega (arith, c.in_default.len_below)) c.loop-rest.invariant.so_far
