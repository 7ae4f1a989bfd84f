use Rattle.std.proofs.Common.{length}
use Rattle.stage_index.proofs.Listing.{Listed}
use Rattle.stage_index.proofs.unmerged_paths.unmerged.Given as goal

abbrev pub invariant-loop-rest : goal.invariant-loop-rest
invariant-loop-rest l = Listed l.entries l.rest l.paths.items

abbrev pub decreases-loop-rest : goal.decreases-loop-rest
decreases-loop-rest l = length l.rest
