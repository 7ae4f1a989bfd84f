use Rattle.std.proofs.Common.{◌≡◌, ◌+◌, ◌*◌, count_by, length, not, reverse, vec_len}
use Rattle.history.specs.Walks.{Walks}
use Rattle.history.proofs.ranges.climb.Given as goal

abbrev pub invariant-waiting : goal.invariant-waiting
invariant-waiting l = record {
  length_is : length l.marks.items ≡ length l.graph;
  walked : Walks l.graph l.fn.ids.items (reverse l.fn.waiting.items) l.fn.marks.items l.ids.items (reverse l.waiting.items) l.marks.items;
}

abbrev pub decreases-waiting : goal.decreases-waiting
decreases-waiting l = 2 * count_by not l.marks.items + vec_len l.waiting
