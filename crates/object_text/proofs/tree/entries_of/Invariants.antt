use Rattle.std.proofs.Common.{length}
use Rattle.object_text.proofs.Entries.{TreeLoop}
use Rattle.object_text.proofs.tree.entries_of.Given as goal

abbrev pub invariant-loop-rest : goal.invariant-loop-rest
invariant-loop-rest l = TreeLoop l.bytes l.entries.items l.rest

abbrev pub decreases-loop-rest : goal.decreases-loop-rest
decreases-loop-rest l = length l.rest
