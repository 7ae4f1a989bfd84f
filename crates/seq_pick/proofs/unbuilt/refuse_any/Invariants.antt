use Rattle.std.proofs.Common.{◌≡◌, length, map}
use Rattle.std.specs.List.{AllByRecursion}
use Rattle.seq_base.specs.StorePaths.{IsStorePath}
use Rattle.seq_model.specs.Unbuilt.{lacks_all}
use Rattle.seq_outside.specs.Seen.{HasReadCause}
use Rattle.seq_outside.specs.Seen.Cause.{ByNone}
use Rattle.seq_pick.proofs.unbuilt.refuse_any.Given as goal

-- what is left gives what all give, over a store that is as before
abbrev pub invariant-loop-rest : goal.invariant-loop-rest
invariant-loop-rest g l = record {
  paths : AllByRecursion (λ path. IsStorePath path.now) l.rest;
  rest : g.S.Store.told
      → lacks_all (g.S.Store.seen l.fn.store).content (map (λ path. path.now) l.rest) ≡ lacks_all (g.S.Store.seen l.fn.store).content (map (λ path. path.now) l.paths);
  same : g.S.Store.told → (g.S.Store.seen l.store).content ≡ (g.S.Store.seen l.fn.store).content;
  cause : HasReadCause g.S.Store.told ByNone (g.S.Store.seen l.fn.store) (g.S.Store.seen l.store);
}

abbrev pub decreases-loop-rest : goal.decreases-loop-rest
decreases-loop-rest g l = length l.rest
