use Rattle.std.proofs.Common.{length}
use Rattle.stage_index.proofs.Staging.{Walk}
use Rattle.stage_index.proofs.staged.staged_path.Given as goal

abbrev pub invariant-loop-rest : goal.invariant-loop-rest
invariant-loop-rest l = Walk l.index l.head l.rest l.n

abbrev pub decreases-loop-rest : goal.decreases-loop-rest
decreases-loop-rest l = length l.rest
