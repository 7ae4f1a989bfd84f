use Rattle.std.proofs.Common.{length}
use Rattle.ref_text.proofs.PackedLoops.{PackedLoop}
use Rattle.ref_text.proofs.read_packed.refs_of.Given as goal

abbrev pub invariant-loop-rest : goal.invariant-loop-rest
invariant-loop-rest l = PackedLoop l.text l.refs.items l.after l.rest

abbrev pub decreases-loop-rest : goal.decreases-loop-rest
decreases-loop-rest l = length l.rest
