use Rattle.std.proofs.Common.{◌≡◌, ◌++◌, length}
use Rattle.state_text.specs.States.{files_among}
use Rattle.state_text.proofs.files.files_among_of.Given as goal

abbrev pub invariant-loop-rest : goal.invariant-loop-rest
invariant-loop-rest l = l.all.items ++ files_among l.rest l.control ≡ files_among l.fn.files l.control

abbrev pub decreases-loop-rest : goal.decreases-loop-rest
decreases-loop-rest l = length l.rest
