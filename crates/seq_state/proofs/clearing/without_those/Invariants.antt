use Rattle.std.proofs.Common.{◌≡◌, ◌++◌, not}
use Rattle.std.specs.Prelude.{filter}
use Rattle.std.specs.Vec.Iter.{into_iter_items}
use Rattle.reading.specs.State.{is_label}
use Rattle.seq_state.proofs.clearing.without_those.Given as goal

abbrev pub invariant-loop-named : goal.invariant-loop-named
invariant-loop-named l =
    l.others.items ++ filter (λ ref. not (is_label ref)) (into_iter_items l.named-iterator) ≡ filter (λ ref. not (is_label ref)) l.fn.refs.items
