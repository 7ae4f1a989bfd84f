use Rattle.std.proofs.Common.{◌≡◌, length}
use Rattle.seq_plumb.specs.Named.{are_tracked}
use Rattle.seq_plumb.proofs.named.want_tracked.Given as goal

abbrev pub invariant-loop-rest : goal.invariant-loop-rest
invariant-loop-rest l = are_tracked l.index l.rest ≡ are_tracked l.index l.paths

abbrev pub decreases-loop-rest : goal.decreases-loop-rest
decreases-loop-rest l = length l.rest
