use Rattle.std.proofs.Common.{◌≡◌, false, take}
use Rattle.std.specs.List.{list_any}
use Rattle.stage_index.specs.Switching.{is_untracked}
use Rattle.worktree.proofs.obstacle.has_untracked.Given as goal

abbrev pub invariant-loop-file : goal.invariant-loop-file
invariant-loop-file l = list_any (is_untracked l.from) (take l.file-index l.files) ≡ false
