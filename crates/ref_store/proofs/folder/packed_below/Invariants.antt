use Rattle.std.proofs.Common.{◌≡◌, [], length}
use Rattle.ref_store.specs.Lists.{with_packed}
use Rattle.ref_store.proofs.folder.packed_below.Given as goal

abbrev pub invariant-loop-rest : goal.invariant-loop-rest
invariant-loop-rest l = with_packed l.folder l.refs.entries l.rest ≡ with_packed l.folder [] l.lines

abbrev pub decreases-loop-rest : goal.decreases-loop-rest
decreases-loop-rest l = length l.rest
