use Rattle.std.proofs.Common.{◌≤◌, ◌-◌, length}
use Rattle.stage_index.proofs.lookup.place_from.Given as goal

abbrev pub invariant-loop-n : goal.invariant-loop-n
invariant-loop-n l = l.place ≤ l.n

abbrev pub decreases-loop-n : goal.decreases-loop-n
decreases-loop-n l = length l.index - l.n
