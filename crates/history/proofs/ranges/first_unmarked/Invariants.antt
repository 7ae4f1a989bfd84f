use Rattle.std.proofs.Common.{◌≡◌, drop}
use Rattle.history.specs.Walks.{first_unmarked}
use Rattle.history.proofs.ranges.first_unmarked.Given as goal

abbrev pub invariant-loop-id : goal.invariant-loop-id
invariant-loop-id l = first_unmarked l.graph l.marks (drop l.id-index l.ids) ≡ first_unmarked l.graph l.marks l.ids
