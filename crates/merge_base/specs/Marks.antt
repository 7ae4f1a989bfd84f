-- Marks beside the commits of a graph, as a search from commits to their parents sets them (git-rev-list(1), "reachable").
use Rattle.std.specs.Prelude.{◌≡◌, ℕ, zero, suc, ◌<◌, ◌↔◌, Bool, true, false, not, ◌&&◌, List, [], ◌∷◌, ◌++◌, length, replicate, slice_index_or, slice_set, Option, Some, None, if◌then◌else◌}
use Rattle.merge_base.specs.declared.graph.Node.{Node}
use Rattle.merge_base.specs.Graphs.{place_from}
use Rattle.merge_base.specs.Bases.{Ancestors}
use Rattle.merge_base.specs.Ranges.{Reached}

-- what stands past the end of a graph
abbrev pub nobody : Node
nobody = record { id = []; parents = []; tree = []; subject = [] }

-- the id and the parents of the commit at a place
abbrev pub id_at : List Node → ℕ → List ℕ
id_at graph place = (slice_index_or graph place nobody).id

abbrev pub parents_at : List Node → ℕ → List (List ℕ)
parents_at graph place = (slice_index_or graph place nobody).parents

-- a place is marked
abbrev pub is_marked : List Bool → ℕ → Bool
is_marked marks place = slice_index_or marks place false

-- marks with one more, if there is a place
abbrev pub mark : List Bool → Option ℕ → List Bool
mark marks None = marks
mark marks (Some place) = slice_set marks place true

-- marks with those of the commits with some ids
abbrev pub mark_each : List Node → List (List ℕ) → List Bool → List Bool
mark_each graph [] marks = marks
mark_each graph (id ∷ ids) marks = mark_each graph ids (mark marks (place_from 0 graph id))

-- marks after each marked commit before a place marked its parents, the newest first
abbrev pub mark_older : List Node → ℕ → List Bool → List Bool
mark_older graph zero marks = marks
mark_older graph (suc place) marks = mark_older graph place (if is_marked marks place then mark_each graph (parents_at graph place) marks else marks)

-- both mark a place
abbrev pub are_both_marked : List Bool → List Bool → ℕ → Bool
are_both_marked ones others place = is_marked ones place && is_marked others place

-- the parents of the commits before a place that both mark
abbrev pub parents_of_both : List Node → List Bool → List Bool → ℕ → List Bool
parents_of_both graph ones others zero = replicate (length graph) false
parents_of_both graph ones others (suc place) =
    if are_both_marked ones others place then mark_each graph (parents_at graph place) (parents_of_both graph ones others place)
    else parents_of_both graph ones others place

-- the ids of the commits before a place that both mark, without those in a third
abbrev pub left_of_both : List Node → List Bool → List Bool → List Bool → ℕ → List (List ℕ)
left_of_both graph ones others without zero = []
left_of_both graph ones others without (suc place) =
    if are_both_marked ones others place && not (is_marked without place) then left_of_both graph ones others without place ++ id_at graph place ∷ []
    else left_of_both graph ones others without place

-- exactly the ancestors of a commit are marked
pub record MarkAncestors (graph : List Node) (commit : List ℕ) (marks : List Bool) : Type 0 where
  pub length_is : length marks ≡ length graph
  pub each : (place : ℕ) → place < length graph → (is_marked marks place ≡ true) ↔ Ancestors graph commit (id_at graph place)

-- exactly the commits that some tips reach are marked
pub record MarkReached (graph : List Node) (tips : List (List ℕ)) (marks : List Bool) : Type 0 where
  pub length_is : length marks ≡ length graph
  pub each : (place : ℕ) → place < length graph → (is_marked marks place ≡ true) ↔ Reached graph tips (id_at graph place)
