use Rattle.std.proofs.Common.{◌≡◌, length}
use Rattle.content_merge.specs.Merging.{first_broken}
use Rattle.content_merge.proofs.merged.first_broken.Given as goal

abbrev pub invariant-loop-rest : goal.invariant-loop-rest
invariant-loop-rest l = first_broken l.rest ≡ first_broken l.rows

abbrev pub decreases-loop-rest : goal.decreases-loop-rest
decreases-loop-rest l = length l.rest
