use Rattle.std.proofs.Common.{◌≡◌, ◌++◌, length, map}
use Rattle.reading.specs.Ending.{update_ref}
use Rattle.seq_lines.specs.Refs.{AreEndRefs, NameRefs}
use Rattle.seq_lines.proofs.end_refs.push_updates.Given as goal

abbrev pub invariant-loop-rest : goal.invariant-loop-rest
invariant-loop-rest l = record {
  is : l.refs.items ++ map update_ref l.rest ≡ l.fn.refs.items ++ map update_ref l.updates;
  refs : AreEndRefs l.refs.items;
  updates : NameRefs l.rest;
}

abbrev pub decreases-loop-rest : goal.decreases-loop-rest
decreases-loop-rest l = length l.rest
