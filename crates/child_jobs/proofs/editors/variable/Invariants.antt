use Rattle.std.proofs.Common.{◌≡◌, length}
use Rattle.child_jobs.specs.Editors.{variable}
use Rattle.child_jobs.proofs.editors.variable.Given as goal

abbrev pub invariant-loop-rest : goal.invariant-loop-rest
invariant-loop-rest l = variable l.rest l.name ≡ variable l.vars l.name

abbrev pub decreases-loop-rest : goal.decreases-loop-rest
decreases-loop-rest l = length l.rest
