-- When a commit is added to a graph.
use Rattle.std.specs.Prelude.{◌≡◌, ◌<◌, ◌≤◌, true, false, List, length, Result, Ok, Err, Some, None}
use Rattle.merge_base.specs.declared.graph.Node.{Node}
use Rattle.merge_base.specs.declared.graph.GraphFault.{GraphFault}
use Rattle.merge_base.specs.declared.graph.GraphFault.TheVariants.{Double, NoParent, Full, Memory}
use Rattle.merge_base.specs.Graphs.{first_missing, has, limit}

-- the first of the causes, in this order; want of memory may come where there is none
abbrev pub AddEnds : List Node → Node → Result (Unit {0}) GraphFault → Type 0
AddEnds graph node (Ok done) = (has graph node.id ≡ false) × (first_missing graph node.parents ≡ None) × (length graph < limit)
AddEnds graph node (Err Double) = has graph node.id ≡ true
AddEnds graph node (Err (NoParent id)) = (has graph node.id ≡ false) × (first_missing graph node.parents ≡ Some id)
AddEnds graph node (Err Full) = (has graph node.id ≡ false) × (first_missing graph node.parents ≡ None) × (limit ≤ length graph)
AddEnds graph node (Err Memory) = (has graph node.id ≡ false) × (first_missing graph node.parents ≡ None) × (length graph < limit)
