-- The todo of a rebase that makes history linear (git-rebase(1), "--rebase-merges": "By default, a rebase will simply drop merge commits
-- from the todo list, and put the rebased commits into a single, linear branch").
use Rattle.std.specs.Prelude.{ℕ, Bool, false, nat_le, if◌then◌else◌, List, [], ◌∷◌, ◌++◌, filter, map, length, Option, Some, None}
use Rattle.hex.specs.Hex.{encode_lower}
use Rattle.merge_base.specs.declared.graph.Node.{Node}
use Rattle.merge_base.specs.Graphs.{node_at}
use Rattle.todo_text.specs.declared.line.Line.{Line}
use Rattle.todo_text.specs.declared.line.Line.TheVariants.{Noop}
use Rattle.todo_plan.specs.Commits.{pick_of}

-- at most one parent
abbrev pub is_no_merge : Node → Bool
is_no_merge node = nat_le (length node.parents) 1

-- the line of a commit, and none of a merge
abbrev pub pick_unless_merge : Option Node → List Line
pick_unless_merge None = []
pick_unless_merge (Some node) = if is_no_merge node then pick_of node ∷ [] else []

-- those of the commits with some ids
abbrev pub picks : List Node → List (List ℕ) → List Line
picks graph [] = []
picks graph (id ∷ ids) = pick_unless_merge (node_at graph id) ++ picks graph ids

-- the todo of a range
abbrev pub linear_todo : List Node → List (List ℕ) → List Line
linear_todo graph [] = Noop ∷ []
linear_todo graph (id ∷ ids) = picks graph (id ∷ ids)

abbrev pub is_some_no_merge : Option Node → Bool
is_some_no_merge None = false
is_some_no_merge (Some node) = is_no_merge node

-- the hex digits of the commits of a range that are no merges, in its order
abbrev pub linear_revs : List Node → List (List ℕ) → List (List ℕ)
linear_revs graph range = map encode_lower (filter (λ id. is_some_no_merge (node_at graph id)) range)
