-- The commits that some tips reach and others do not, each after its parents (git-rev-list(1), "Commit Limiting" and
-- "--topo-order").
use Rattle.std.specs.Prelude.{ℕ, zero, suc, Bool, false, ◌||◌, List, [], ◌∷◌, ◌++◌, length, fold, if◌then◌else◌}
use Rattle.std.specs.List.{Contains}
use Rattle.merge_base.specs.declared.graph.Node.{Node}
use Rattle.merge_base.specs.Graphs.{is_among, parents_of}
use Rattle.merge_base.specs.Bases.{Ancestors}

-- one of some tips, or an ancestor of one
pub record Reached (graph : List Node) (tips : List (List ℕ)) (id : List ℕ) : Type 0 where
  pub tip : List ℕ
  pub among : Contains tips tip
  pub above : Ancestors graph tip id

-- whether a walk passes over a commit: it is excluded, or was met before
abbrev pub is_passed : (List ℕ → Bool) → List (List ℕ) → List ℕ → Bool
is_passed excluded ids id = excluded id || is_among ids id

-- What a walk has met, with a commit behind its parents, which are met in their order. No way down has more commits than the
-- number.
abbrev pub met : (List ℕ → Bool) → List Node → ℕ → List (List ℕ) → List ℕ → List (List ℕ)
met excluded graph zero ids id = ids
met excluded graph (suc deep) ids id =
    if is_passed excluded ids id then ids else fold (met excluded graph deep) ids (parents_of graph id) ++ id ∷ []

-- the commits that a walk from the tips meets, without the excluded ones
abbrev pub walk : (List ℕ → Bool) → List Node → List (List ℕ) → List (List ℕ)
walk excluded graph tips = fold (met excluded graph (length graph)) [] tips

-- the commits that some tips reach and others do not
abbrev pub range : List Node → List (List ℕ) → List (List ℕ) → List (List ℕ)
range graph excluded tips = walk (λ id. is_among (walk (λ other. false) graph excluded) id) graph tips
