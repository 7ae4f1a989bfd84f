use Rattle.std.proofs.Common.{◌≡◌, [], length}
use Rattle.seq_plumb.specs.Named.{paths_behind}
use Rattle.seq_plumb.proofs.named.paths_named.Given as goal

abbrev pub invariant-loop-rest : goal.invariant-loop-rest
invariant-loop-rest l = paths_behind l.paths.items l.rest ≡ paths_behind [] l.words

abbrev pub decreases-loop-rest : goal.decreases-loop-rest
decreases-loop-rest l = length l.rest
