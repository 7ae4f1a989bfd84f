-- Ancestors and merge bases (git-merge-base(1): "a common ancestor is better than another common ancestor if the latter
-- is an ancestor of the former", "a merge base is a best common ancestor").
use Rattle.std.specs.Prelude.{◌≡◌, ℕ, ◌<◌, ◌↔◌, true, List, length, slice_index_or}
use Rattle.std.specs.List.{Contains}
use Rattle.seq_base.specs.PathMaps.{is_less}
use Rattle.merge_base.specs.declared.graph.Node.{Node}

-- the least set that holds a commit and the parents of its members
pub data Ancestors (graph : List Node) (commit : List ℕ) : List ℕ → Type 0 where
  itself : Ancestors graph commit commit
  parent_of : (node : Node) (id : List ℕ) → Contains graph node → Ancestors graph commit node.id → Contains node.parents id
      → Ancestors graph commit id

-- a common ancestor that is no proper ancestor of another
pub record IsBase (graph : List Node) (a b base : List ℕ) : Type 0 where
  pub of_a : Ancestors graph a base
  pub of_b : Ancestors graph b base
  pub best : (other : List ℕ) → Ancestors graph a other → Ancestors graph b other → Ancestors graph other base → base ≡ other

-- the merge bases, in byte order, each once
pub record AreBases (graph : List Node) (a b : List ℕ) (ids : List (List ℕ)) : Type 0 where
  pub order : (j k : ℕ) (d : List ℕ) → j < k → k < length ids → is_less (slice_index_or ids j d) (slice_index_or ids k d) ≡ true
  pub each : (id : List ℕ) → Contains ids id ↔ IsBase graph a b id
