-- Where a commit stands in a graph.
use Rattle.std.proofs.Common.{◌≡◌, ℕ, suc, ◌+◌, ◌<◌, Bool, true, false, cond, ◌||◌, List, [], ◌∷◌, length, get_or, Some, None, is_some, refl, arith}
use Rattle.std.specs.Str.{bytes_eq}
use Rattle.merge_base.specs.declared.graph.Node.{Node}
use Rattle.merge_base.specs.Graphs.{has, node_at, place_from}

pub place_has : (n : ℕ) (graph : List Node) (id : List ℕ) → is_some (place_from n graph id) ≡ has graph id
place_has n [] id = refl
place_has n (node ∷ graph) id = at (place_has (n + 1) graph id) (bytes_eq node.id id)
  where
    at : is_some (place_from (n + 1) graph id) ≡ has graph id → (t : Bool)
        → is_some (cond t (Some n) (place_from (n + 1) graph id)) ≡ (t || has graph id)
    at rest true = refl
    at rest false = rest

-- the place of an id is that of the commit that has it
pub record Placed (n : ℕ) (graph : List Node) (id : List ℕ) (place : ℕ) : Type 0 where
  pub at : ℕ
  pub is : place ≡ n + at
  pub within : at < length graph
  pub found : (d : Node) → node_at graph id ≡ Some (get_or graph at d)
  pub same : (d : Node) → bytes_eq (get_or graph at d).id id ≡ true

pub placed : (n : ℕ) (graph : List Node) (id : List ℕ) (place : ℕ) → place_from n graph id ≡ Some place → Placed n graph id place
placed n [] id place e = absurd cc
placed n (node ∷ graph) id place e = here (placed (n + 1) graph id place) (bytes_eq node.id id) refl e
  where
    here : (place_from (n + 1) graph id ≡ Some place → Placed (n + 1) graph id place) → (t : Bool) → bytes_eq node.id id ≡ t
        → cond t (Some n) (place_from (n + 1) graph id) ≡ Some place → Placed n (node ∷ graph) id place
    here rest true is e = let k : n ≡ place = cc in record { at = 0; is = omega arith; within = omega arith; found = λ d. rw is refl; same = λ d. is }
    here rest false is e =
        let r = rest e in
        record { at = suc r.at; is = omega (arith, r.is); within = omega (arith, r.within); found = λ d. rw is (r.found d); same = λ d. r.same d }

pub unplaced : (n : ℕ) (graph : List Node) (id : List ℕ) → place_from n graph id ≡ None → node_at graph id ≡ None
unplaced n [] id e = refl
unplaced n (node ∷ graph) id e = here (unplaced (n + 1) graph id) (bytes_eq node.id id) e
  where
    here : (place_from (n + 1) graph id ≡ None → node_at graph id ≡ None) → (t : Bool) → cond t (Some n) (place_from (n + 1) graph id) ≡ None
        → cond t (Some node) (node_at graph id) ≡ None
    here rest true e = absurd cc
    here rest false e = rest e
