-- How a graph keeps the places of its commits.
use Rattle.std.specs.Prelude.{◌≡◌, ℕ, ◌≤◌, List, length}
use Rattle.std.specs.BTreeMap.{BTreeMap, get}
use Rattle.std.specs.Cmp.Lexicographic.{slice_cmp}
use Rattle.std.specs.Ordering.{nat_cmp}
use Rattle.merge_base.specs.declared.graph.Node.{Node}
use Rattle.merge_base.specs.Graphs.{ParentsFirst, limit, place_from}

pub record IsGraph (nodes : List Node) (places : BTreeMap (List ℕ) ℕ) : Type 0 where
  pub parents_first : ParentsFirst nodes
  pub small : length nodes ≤ limit
  pub placed : (id : List ℕ) → get (slice_cmp nat_cmp) places id ≡ place_from 0 nodes id
