-- The lines of a range that is made linear are about its commits that are no merges.
use Rattle.std.proofs.Common.{◌≡◌, ℕ, Bool, true, false, cond, List, [], ◌∷◌, ◌++◌, filter, map, Option, Some, None, refl, sym, ap, subst, ◌∙◌}
use Rattle.std.specs.Prelude.{All}
use Rattle.std.specs.Str.{bytes_eq}
use Rattle.std.proofs.lemmas.Slice.Eq.{bytes_eq-Decides}
use Rattle.std.proofs.lemmas.List.Elements.{All-head, All-tail}
use Rattle.hex.specs.Hex.{encode_lower}
use Rattle.merge_base.specs.declared.graph.Node.{Node}
use Rattle.merge_base.specs.Graphs.{HasPlainSubjects, node_at}
use Rattle.todo_text.specs.Spells.{HasNoFeed}
use Rattle.todo_plan.specs.Linear.{is_no_merge, is_some_no_merge, linear_revs, pick_unless_merge, picks}
use Rattle.todo_plan.specs.Told.{revs_of}

pub found_id : (graph : List Node) (id : List ℕ) (node : Node) → node_at graph id ≡ Some node → node.id ≡ id
found_id [] id node e = cc
found_id (other ∷ graph) id node e = at (found_id graph id node) (bytes_eq other.id id) refl e
  where
    at : (node_at graph id ≡ Some node → node.id ≡ id) → (t : Bool) → bytes_eq other.id id ≡ t → cond t (Some other) (node_at graph id) ≡ Some node
        → node.id ≡ id
    at rest true b e = let is : other ≡ node = cc in ap (λ (n : Node). n.id) (sym is) ∙ (bytes_eq-Decides other.id id).0 b
    at rest false b e = rest e

plain_in : (graph : List Node) (id : List ℕ) (node : Node) → All (λ node. HasNoFeed node.subject) graph → node_at graph id ≡ Some node
    → HasNoFeed node.subject
plain_in [] id node h e = cc
plain_in (other ∷ graph) id node h e =
    at (plain_in graph id node (All-tail (λ (n : Node). HasNoFeed n.subject) other graph h)) (bytes_eq other.id id) e
  where
    at : (node_at graph id ≡ Some node → HasNoFeed node.subject) → (t : Bool) → cond t (Some other) (node_at graph id) ≡ Some node
        → HasNoFeed node.subject
    at rest true e =
        let is : other ≡ node = cc in subst (λ (n : Node). HasNoFeed n.subject) is (All-head (λ (n : Node). HasNoFeed n.subject) other graph h)
    at rest false e = rest e

pub plain_subject : (graph : List Node) (id : List ℕ) (node : Node) → HasPlainSubjects graph → node_at graph id ≡ Some node → HasNoFeed node.subject
plain_subject graph id node h e = plain_in graph id node h.each e

pub picks_about : (graph : List Node) (range : List (List ℕ)) → revs_of (picks graph range) ≡ linear_revs graph range
picks_about graph [] = refl
picks_about graph (id ∷ range) = at (picks_about graph range) (node_at graph id) refl
  where
    one : revs_of (picks graph range) ≡ linear_revs graph range → (node : Node) → node.id ≡ id → (t : Bool) → is_no_merge node ≡ t
        → revs_of (pick_unless_merge (Some node) ++ picks graph range) ≡ map encode_lower (cond (is_some_no_merge (Some node)) (id ∷ filter (λ id. is_some_no_merge (node_at graph id)) range) (filter (λ id. is_some_no_merge (node_at graph id)) range))
    one rest node is true e = rw e (λ i. encode_lower (is i) ∷ rest i)
    one rest node is false e = rw e rest

    at : revs_of (picks graph range) ≡ linear_revs graph range → (found : Option Node) → node_at graph id ≡ found
        → revs_of (pick_unless_merge found ++ picks graph range) ≡ map encode_lower (cond (is_some_no_merge found) (id ∷ filter (λ id. is_some_no_merge (node_at graph id)) range) (filter (λ id. is_some_no_merge (node_at graph id)) range))
    at rest None e = rest
    at rest (Some node) e = one rest node (found_id graph id node e) (is_no_merge node) refl
