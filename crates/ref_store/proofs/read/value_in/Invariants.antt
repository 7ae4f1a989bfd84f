use Rattle.std.proofs.Common.{◌≡◌, length}
use Rattle.ref_text.specs.Refs.{packed_value}
use Rattle.ref_store.proofs.read.value_in.Given as goal

abbrev pub invariant-loop-rest : goal.invariant-loop-rest
invariant-loop-rest l = packed_value l.rest l.name ≡ packed_value l.refs l.name

abbrev pub decreases-loop-rest : goal.decreases-loop-rest
decreases-loop-rest l = length l.rest
