use Rattle.std.proofs.Common.{◌≡◌, drop}
use Rattle.merge_base.specs.Graphs.{first_missing}
use Rattle.merge_base.proofs.graph.Graph.missing.Given as goal

abbrev pub invariant-loop-id : goal.invariant-loop-id
invariant-loop-id l = first_missing l.self (drop l.id-index l.ids) ≡ first_missing l.self l.ids
