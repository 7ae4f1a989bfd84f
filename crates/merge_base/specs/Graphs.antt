-- Graphs of commits, in an order in which parents come first (gitglossary(7), "parent", "DAG").
use Rattle.std.specs.Prelude.{◌≡◌, ℕ, ◌+◌, ◌<◌, ◌==◌, Bool, true, false, not, All, List, [], ◌∷◌, length, take, slice_index_or, Option, Some, None, if◌then◌else◌}
use Rattle.std.specs.List.{find, list_all, list_any}
use Rattle.std.specs.Str.{bytes_eq}
use Rattle.merge_base.specs.declared.graph.Node.{Node}

-- the commit with an id
abbrev pub node_at : List Node → List ℕ → Option Node
node_at graph id = find (λ node. bytes_eq node.id id) graph

-- a commit has this id
abbrev pub has : List Node → List ℕ → Bool
has graph id = list_any (λ node. bytes_eq node.id id) graph

-- no parents of a commit that a graph does not have
abbrev pub parents_in : Option Node → List (List ℕ)
parents_in None = []
parents_in (Some node) = node.parents

abbrev pub parents_of : List Node → List ℕ → List (List ℕ)
parents_of graph id = parents_in (node_at graph id)

abbrev pub is_among : List (List ℕ) → List ℕ → Bool
is_among ids id = list_any (λ other. bytes_eq other id) ids

-- the first of ids that no commit has
abbrev pub first_missing : List Node → List (List ℕ) → Option (List ℕ)
first_missing graph ids = find (λ id. not (has graph id)) ids

-- how many commits a graph may have
abbrev pub limit : ℕ
limit = 1048576

-- each commit is new, and its parents come before it
abbrev pub ParentsFirst : List Node → Type 0
ParentsFirst graph =
    (k : ℕ) (d : Node) → k < length graph
    → (has (take k graph) (slice_index_or graph k d).id ≡ false) × (first_missing (take k graph) (slice_index_or graph k d).parents ≡ None)

-- no line feed
abbrev pub IsPlain : List ℕ → Type 0
IsPlain subject = list_all (λ b. not (b == 10)) subject ≡ true

pub record HasPlainSubjects (graph : List Node) : Type 0 where
  pub each : All (λ node. IsPlain node.subject) graph

-- the place of an id, counted from a number
abbrev pub place_from : ℕ → List Node → List ℕ → Option ℕ
place_from n [] id = None
place_from n (node ∷ graph) id = if bytes_eq node.id id then Some n else place_from (n + 1) graph id
