use Rattle.std.proofs.Common.{◌≡◌, ◌-◌, length, take}
use Rattle.index_file.specs.Index.{indexed}
use Rattle.stage_index.proofs.map.copied.Given as goal

abbrev pub invariant-loop-path : goal.invariant-loop-path
invariant-loop-path l = l.entries.items ≡ indexed (take l.n l.map)

abbrev pub decreases-loop-path : goal.decreases-loop-path
decreases-loop-path l = length l.map - l.n
