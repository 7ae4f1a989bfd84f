use Rattle.std.proofs.Common.{◌≡◌, length}
use Rattle.std.specs.List.{AllByRecursion}
use Rattle.seq_base.specs.RefNames.{IsRefName}
use Rattle.seq_outside.specs.Seen.{HasReadCause}
use Rattle.seq_outside.specs.Seen.Cause.{ByNone}
use Rattle.ref_store.specs.Lists.{with_values}
use Rattle.ref_store.proofs.folder.with_values.Given as goal

-- what is left gives what all give, over a store that is as before
abbrev pub invariant-loop-rest : goal.invariant-loop-rest
invariant-loop-rest g l = record {
  names : AllByRecursion IsRefName l.rest;
  rest : g.S.Store.told
      → with_values (g.S.Store.seen l.fn.store).content l.packed l.refs.entries l.rest ≡ with_values (g.S.Store.seen l.fn.store).content l.packed l.fn.refs.entries l.names;
  same : g.S.Store.told → (g.S.Store.seen l.store).content ≡ (g.S.Store.seen l.fn.store).content;
  cause : HasReadCause g.S.Store.told ByNone (g.S.Store.seen l.fn.store) (g.S.Store.seen l.store);
}

abbrev pub decreases-loop-rest : goal.decreases-loop-rest
decreases-loop-rest g l = length l.rest
