use Rattle.std.proofs.Common.{◌≡◌, ℕ, List, false, length}
use Rattle.std.specs.FinMap as map
use Rattle.std.specs.List.{AllByRecursion}
use Rattle.seq_base.specs.StorePaths.{IsStorePath}
use Rattle.seq_memory.specs.Children.{HasNoFault, is_written, written}
use Rattle.seq_outside.specs.Seen.{Goes}
use Rattle.seq_memory.proofs.children.make_writes.Given as goal

abbrev pub invariant-loop-rest : goal.invariant-loop-rest
invariant-loop-rest g l = record {
  store_paths : AllByRecursion (λ change. IsStorePath change.0) l.rest;
  exact : g.S.Store.told → HasNoFault (g.S.Store.seen l.fn.store) (g.S.Store.seen l.store)
      → written (g.S.Store.seen l.store).content l.rest ≡ written (g.S.Store.seen l.fn.store).content l.fn.writes;
  elsewhere : g.S.Store.told → (path : List ℕ) → is_written l.fn.writes path ≡ false → is_written l.rest path ≡ false;
  same : g.S.Store.told → (path : List ℕ) → is_written l.fn.writes path ≡ false
      → map.get (g.S.Store.seen l.store).content path ≡ map.get (g.S.Store.seen l.fn.store).content path;
  store : Goes g.S.Store.told (g.S.Store.seen l.fn.store) (g.S.Store.seen l.store);
}

abbrev pub decreases-loop-rest : goal.decreases-loop-rest
decreases-loop-rest g l = length l.rest
