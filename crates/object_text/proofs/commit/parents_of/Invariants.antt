use Rattle.std.proofs.Common.{length}
use Rattle.object_text.proofs.CommitLoops.{ParentsLoop}
use Rattle.object_text.proofs.commit.parents_of.Given as goal

abbrev pub invariant-loop-rest : goal.invariant-loop-rest
invariant-loop-rest l = ParentsLoop l.tree l.bytes l.parents.items l.rest

abbrev pub decreases-loop-rest : goal.decreases-loop-rest
decreases-loop-rest l = length l.rest
