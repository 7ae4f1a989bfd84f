use Rattle.std.proofs.Common.{◌≡◌, ◌+◌, ◌*◌, ◌-◌, ◌≤◌, length, reverse, vec_len}
use Rattle.merge_base.specs.Graphs.{HasPlainSubjects, limit}
use Rattle.seq_outside.specs.Seen.{HasReadCause}
use Rattle.seq_outside.specs.Seen.Cause.{ByNone}
use Rattle.history.specs.Waiting.{waited}
use Rattle.history.proofs.loads.climb.Given as goal

abbrev pub invariant-waiting : goal.invariant-waiting
invariant-waiting g l = record {
  left : g.S.Store.told
      → waited (g.S.Store.seen l.fn.store).content l.graph (reverse l.waiting.items) ≡ waited (g.S.Store.seen l.fn.store).content l.fn.graph (reverse l.fn.waiting.items);
  subjects : HasPlainSubjects l.fn.graph → HasPlainSubjects l.fn.waiting.items → HasPlainSubjects l.graph × HasPlainSubjects l.waiting.items;
  small : length l.graph + vec_len l.waiting ≤ limit;
  same : g.S.Store.told → (g.S.Store.seen l.store).content ≡ (g.S.Store.seen l.fn.store).content;
  cause : HasReadCause g.S.Store.told ByNone (g.S.Store.seen l.fn.store) (g.S.Store.seen l.store);
}

abbrev pub decreases-waiting : goal.decreases-waiting
decreases-waiting g l = 2 * limit - (2 * length l.graph + vec_len l.waiting)
