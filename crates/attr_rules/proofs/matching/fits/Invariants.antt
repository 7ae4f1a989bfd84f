use Rattle.std.proofs.Common.{length}
use Rattle.attr_rules.proofs.Fitting.{StillFits}
use Rattle.attr_rules.proofs.matching.fits.Given as goal

abbrev pub invariant-loop-rest : goal.invariant-loop-rest
invariant-loop-rest l = StillFits l.begins l.rest l.marks.items l.text l.letters

abbrev pub decreases-loop-rest : goal.decreases-loop-rest
decreases-loop-rest l = length l.rest
