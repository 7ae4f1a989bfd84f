use Rattle.std.proofs.Common.{◌≡◌, ◌+◌, ◌++◌, length}
use Rattle.stage_index.specs.Staged.{staged_as, staged_from}
use Rattle.stage_index.proofs.setting.staged.Given as goal

abbrev pub invariant-loop-rest : goal.invariant-loop-rest
invariant-loop-rest l = record {
  so_far : staged_as l.path l.stages ≡ l.entries.items ++ staged_from l.path l.stage l.rest;
  few : l.stage + length l.rest ≡ 4;
}

abbrev pub decreases-loop-rest : goal.decreases-loop-rest
decreases-loop-rest l = length l.rest
