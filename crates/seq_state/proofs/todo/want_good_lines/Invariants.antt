use Rattle.std.proofs.Common.{◌≡◌, length}
use Rattle.seq_outside.specs.Seen.{HasReadCause}
use Rattle.seq_outside.specs.Seen.Cause.{ByNone}
use Rattle.reading.specs.Todos.{first_bad}
use Rattle.seq_state.proofs.todo.want_good_lines.Given as goal

abbrev pub invariant-loop-numbers : goal.invariant-loop-numbers
invariant-loop-numbers g l = record {
  same : g.S.Store.told → (g.S.Store.seen l.store).content ≡ (g.S.Store.seen l.fn.store).content;
  bad :
      g.S.Store.told
      → first_bad (g.S.Store.seen l.fn.store).content l.numbers l.lines ≡ first_bad (g.S.Store.seen l.fn.store).content l.fn.numbers l.fn.lines;
  cause : HasReadCause g.S.Store.told ByNone (g.S.Store.seen l.fn.store) (g.S.Store.seen l.store);
}

abbrev pub decreases-loop-numbers : goal.decreases-loop-numbers
decreases-loop-numbers g l = length l.numbers
