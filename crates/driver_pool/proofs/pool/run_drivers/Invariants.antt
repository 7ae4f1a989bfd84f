use Rattle.std.proofs.Common.{◌≡◌, ◌+◌, length}
use Rattle.seq_outside.specs.Child.{Serves}
use Rattle.seq_outside.specs.Seen.{Lasts}
use Rattle.driver_pool.proofs.Running.{IsSoFar}
use Rattle.driver_pool.proofs.pool.run_drivers.Given as goal

abbrev pub invariant-loop-rest : goal.invariant-loop-rest
invariant-loop-rest g l = record {
  so_far : IsSoFar g.S.Store.told g.P.Spawner.ran l.fn.jobs l.fn.spawner (g.S.Store.seen l.fn.store) l.ends.items l.number l.rest l.spawner (g.S.Store.seen l.store);
  number : l.number + length l.rest ≡ length l.fn.jobs + 1;
  store : Lasts (g.S.Store.seen l.fn.store) (g.S.Store.seen l.store);
  children : Serves (g.P.Spawner.seen l.fn.spawner) (g.P.Spawner.seen l.spawner);
}

abbrev pub decreases-loop-rest : goal.decreases-loop-rest
decreases-loop-rest g l = length l.rest
