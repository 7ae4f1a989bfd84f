use Rattle.std.proofs.Common.{length}
use Rattle.ref_text.proofs.LogLoops.{LogLoop}
use Rattle.ref_text.proofs.read_log.lines_of.Given as goal

abbrev pub invariant-loop-rest : goal.invariant-loop-rest
invariant-loop-rest l = LogLoop l.text l.lines.items l.rest

abbrev pub decreases-loop-rest : goal.decreases-loop-rest
decreases-loop-rest l = length l.rest
