-- A walk over a graph that is under way: which commits it passes over, and commits that wait for their parents.
use Rattle.std.specs.Prelude.{◌≡◌, ℕ, ◌+◌, ◌≤◌, Bool, true, not, ◌||◌, List, [], ◌∷◌, ◌++◌, length, fold, find, Option, Some, None}
use Rattle.merge_base.specs.declared.graph.Node.{Node}
use Rattle.merge_base.specs.Graphs.{is_among, parents_of, place_from}
use Rattle.merge_base.specs.Marks.{is_marked, mark}
use Rattle.merge_base.specs.Ranges.{is_passed, met}

-- marks tell of a commit that it is not to be met
abbrev pub is_noted_at : List Bool → Option ℕ → Bool
is_noted_at marks None = true
is_noted_at marks (Some place) = is_marked marks place

abbrev pub is_noted : List Node → List Bool → List ℕ → Bool
is_noted graph marks id = is_noted_at marks (place_from 0 graph id)

abbrev pub first_unmarked : List Node → List Bool → List (List ℕ) → Option (List ℕ)
first_unmarked graph marks ids = find (λ id. not (is_noted graph marks id)) ids

abbrev pub noted : List Node → List Bool → Option (List ℕ) → List Bool
noted graph marks None = marks
noted graph marks (Some id) = mark marks (place_from 0 graph id)

-- each stands in the graph behind the one before it, the first of them from a place on
abbrev pub AreInOrder : List Node → ℕ → List (List ℕ) → Type 0
AreInOrder graph from [] = Unit {0}
AreInOrder graph from (id ∷ waiting) = (place : ℕ) × (from ≤ place) × (place_from 0 graph id ≡ Some place) × AreInOrder graph (place + 1) waiting

-- exactly what a walk passes over and what waits is marked; those that wait stand behind each other, the one that was met last first
pub record AreMarked (graph : List Node) (excluded : List ℕ → Bool) (ids waiting : List (List ℕ)) (marks : List Bool) : Type 0 where
  pub length_is : length marks ≡ length graph
  pub each : (id : List ℕ) (place : ℕ) → place_from 0 graph id ≡ Some place
      → is_marked marks place ≡ (is_passed excluded ids id || is_among waiting id)
  pub order : AreInOrder graph 0 waiting

-- what a walk will have met when those that wait have their parents
abbrev pub met_then : (List ℕ → Bool) → List Node → List (List ℕ) → List (List ℕ) → List (List ℕ)
met_then excluded graph ids [] = ids
met_then excluded graph ids (id ∷ waiting) =
    met_then excluded graph (fold (met excluded graph (length graph)) ids (parents_of graph id) ++ id ∷ []) waiting

-- Whatever is excluded, if those and what was met are what is marked: a walk has met this much, and marked it.
pub record Walks (graph : List Node) (ids waiting : List (List ℕ)) (marks : List Bool) (more left : List (List ℕ)) (after : List Bool) : Type 0 where
  pub marked : (excluded : List ℕ → Bool) → AreMarked graph excluded ids waiting marks → AreMarked graph excluded more left after
  pub met_is : (excluded : List ℕ → Bool) → AreMarked graph excluded ids waiting marks
      → met_then excluded graph more left ≡ met_then excluded graph ids waiting

-- The same of a walk from some tips, which leaves none waiting.
pub record HasMet (graph : List Node) (ids tips : List (List ℕ)) (marks : List Bool) (more : List (List ℕ)) (after : List Bool) : Type 0 where
  pub marked : (excluded : List ℕ → Bool) → AreMarked graph excluded ids [] marks → AreMarked graph excluded more [] after
  pub met_is : (excluded : List ℕ → Bool) → AreMarked graph excluded ids [] marks → more ≡ fold (met excluded graph (length graph)) ids tips
