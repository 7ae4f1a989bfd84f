-- A walk that is under way: commits that wait for their parents.
use Rattle.std.specs.Prelude.{◌+◌, ◌-◌, List, [], ◌∷◌, length, Result, Ok}
use Rattle.merge_base.specs.declared.graph.Node.{Node}
use Rattle.merge_base.specs.Graphs.{limit}
use Rattle.seq_base.specs.World.{World}
use Rattle.seq_outside.specs.Halts.{◌>>=◌}
use Rattle.seq_outside.specs.declared.lack.Lack.{Lack}
use Rattle.history.specs.Loads.{each, joined, walked}

-- what comes of a graph when those that wait have their parents, the one that was met last first
unfoldable pub waited : World → List Node → List Node → Result (List Node) Lack
waited w graph [] = Ok graph
waited w graph (node ∷ waiting) = do
  more ← each (walked w (limit - (length waiting + 1))) graph node.parents
  behind ← joined more node
  waited w behind waiting
