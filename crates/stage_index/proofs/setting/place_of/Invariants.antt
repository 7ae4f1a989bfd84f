use Rattle.std.proofs.Common.{◌≡◌, ◌++◌, List, drop, take}
use Rattle.index_file.specs.declared.entry.IndexEntry.{IndexEntry}
use Rattle.stage_index.specs.Staged.{placed}
use Rattle.stage_index.proofs.setting.place_of.Given as goal

abbrev pub invariant-loop-n : goal.invariant-loop-n
invariant-loop-n l = (new : List IndexEntry) → placed l.entries l.path new ≡ take l.n l.entries ++ placed (drop l.n l.entries) l.path new
