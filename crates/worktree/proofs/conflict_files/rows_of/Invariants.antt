use Rattle.std.proofs.Common.{◌≡◌, ◌++◌, length}
use Rattle.std.specs.Prelude.{map}
use Rattle.stage_index.specs.Conflicts.{blob_row}
use Rattle.stage_index.specs.Stages.{map_of}
use Rattle.worktree.proofs.conflict_files.rows_of.Given as goal

abbrev pub invariant-loop-rest : goal.invariant-loop-rest
invariant-loop-rest l = l.files.items ++ map blob_row (map_of l.rest) ≡ map blob_row (map_of l.index)

abbrev pub decreases-loop-rest : goal.decreases-loop-rest
decreases-loop-rest l = length l.rest
