use Rattle.std.proofs.Common.{◌≡◌, ◌++◌, drop, take}
use Rattle.stage_index.specs.Conflicts.{among}
use Rattle.stage_index.specs.declared.conflict.ConflictFile.{ConflictFile}
use Rattle.worktree.proofs.conflict_files.place_of.Given as goal

abbrev pub invariant-loop-n : goal.invariant-loop-n
invariant-loop-n l = (file : ConflictFile) → among l.files (l.path, file) ≡ take l.n l.files ++ among (drop l.n l.files) (l.path, file)
