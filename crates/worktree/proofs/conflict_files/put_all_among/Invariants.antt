use Rattle.std.proofs.Common.{◌≡◌, length}
use Rattle.stage_index.specs.Conflicts.{all_among}
use Rattle.worktree.proofs.conflict_files.put_all_among.Given as goal

abbrev pub invariant-loop-rest : goal.invariant-loop-rest
invariant-loop-rest l = all_among l.files.items l.rest ≡ all_among l.fn.files.items l.more

abbrev pub decreases-loop-rest : goal.decreases-loop-rest
decreases-loop-rest l = length l.rest
