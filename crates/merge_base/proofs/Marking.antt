-- What a search marks.
use Rattle.std.proofs.Common.{◌≡◌, ◌≢◌, ◌⊎◌, inl, inr, ℕ, zero, suc, ◌+◌, ◌<◌, Bool, true, false, cond, not, ◌||◌, eqb, List, [], ◌∷◌, length, take, get_or, set, Option, Some, None, Contains, refl, sym, ap, subst, ◌∙◌, arith, length-set, get_or-set_same, get_or-set_other}
use Rattle.std.specs.Str.{bytes_eq}
use Rattle.std.proofs.lemmas.Bool.Decides.{Decides-eqb}
use Rattle.std.proofs.lemmas.Slice.Eq.{bytes_eq-Decides}
use Rattle.merge_base.specs.declared.graph.Node.{Node}
use Rattle.merge_base.specs.Graphs.{ParentsFirst, first_missing, has, place_from}
use Rattle.merge_base.specs.Marks.{id_at, is_marked, mark, mark_each, nobody, parents_at}
use Rattle.merge_base.proofs.Places.{placed}

-- ---- places

-- the first commit with an id is in its place
first_place : (n : ℕ) (graph : List Node) (id : List ℕ) (k : ℕ) → k < length graph → has (take k graph) id ≡ false
    → bytes_eq (id_at graph k) id ≡ true → place_from n graph id ≡ Some (n + k)
first_place n [] id k l none e = absurd (omega arith)
first_place n (node ∷ graph) id zero l none e = let k : n ≡ n + 0 = omega arith in rw e (ap Some k)
first_place n (node ∷ graph) id (suc k) l none e = at (λ gone. first_place (n + 1) graph id k (omega arith) gone e) (bytes_eq node.id id) refl none
  where
    at : (has (take k graph) id ≡ false → place_from (n + 1) graph id ≡ Some (n + 1 + k)) → (t : Bool) → bytes_eq node.id id ≡ t
        → (t || has (take k graph) id) ≡ false → cond t (Some n) (place_from (n + 1) graph id) ≡ Some (n + suc k)
    at rest true b gone = absurd cc
    at rest false b gone = let m : n + 1 + k ≡ n + suc k = omega arith in rest gone ∙ ap Some m

pub place_at : (graph : List Node) (k : ℕ) → ParentsFirst graph → k < length graph → place_from 0 graph (id_at graph k) ≡ Some k
place_at graph k first l =
    let m : 0 + k ≡ k = omega arith in
    first_place 0 graph (id_at graph k) k l (first k nobody l).0 ((bytes_eq-Decides (id_at graph k) (id_at graph k)).1 refl) ∙ ap Some m

-- the commit at the place of an id has it
pub id_placed : (graph : List Node) (id : List ℕ) (k : ℕ) → place_from 0 graph id ≡ Some k → (k < length graph) × (id_at graph k ≡ id)
id_placed graph id k e =
    let at = placed 0 graph id k e in
    let is : at.at ≡ k = omega (arith, at.is) in
    let l : k < length graph = omega (arith, at.is, at.within) in
    (l, sym (ap (id_at graph) is) ∙ (bytes_eq-Decides (id_at graph at.at) id).0 (at.same nobody))

has_front : (n : ℕ) (graph : List Node) (id : List ℕ) (k : ℕ) → has (take k graph) id ≡ true
    → (j : ℕ) × (j < k) × (place_from n graph id ≡ Some (n + j))
has_front n [] id zero e = absurd cc
has_front n [] id (suc k) e = absurd cc
has_front n (node ∷ graph) id zero e = absurd cc
has_front n (node ∷ graph) id (suc k) e = at (has_front (n + 1) graph id k) (bytes_eq node.id id) e
  where
    at : (has (take k graph) id ≡ true → (j : ℕ) × (j < k) × (place_from (n + 1) graph id ≡ Some (n + 1 + j))) → (t : Bool)
        → (t || has (take k graph) id) ≡ true → (j : ℕ) × (j < suc k) × (cond t (Some n) (place_from (n + 1) graph id) ≡ Some (n + j))
    at rest true e = let m : n ≡ n + 0 = omega arith in (0, omega arith, ap Some m)
    at rest false e =
        let r = rest e in
        let m : n + 1 + r.0 ≡ n + suc r.0 = omega arith in
        (suc r.0, omega (arith, r.1), r.2 ∙ ap Some m)

none_missing : (graph : List Node) (ids : List (List ℕ)) (k : ℕ) (id : List ℕ) → first_missing graph ids ≡ None → k < length ids
    → get_or ids k id ≡ id → has graph id ≡ true
none_missing graph [] k id e l is = absurd (omega arith)
none_missing graph (other ∷ ids) zero id e l is = at (has graph other) refl e
  where
    at : (t : Bool) → has graph other ≡ t → cond (not t) (Some other) (first_missing graph ids) ≡ None → has graph id ≡ true
    at true b e = ap (has graph) (sym is) ∙ b
    at false b e = absurd cc
none_missing graph (other ∷ ids) (suc k) id e l is = at (λ e. none_missing graph ids k id e (omega arith) is) (has graph other) e
  where
    at : (first_missing graph ids ≡ None → has graph id ≡ true) → (t : Bool) → cond (not t) (Some other) (first_missing graph ids) ≡ None
        → has graph id ≡ true
    at rest true e = rest e
    at rest false e = absurd cc

-- a parent comes before
pub parent_before : (graph : List Node) (k : ℕ) (id : List ℕ) → ParentsFirst graph → k < length graph → Contains (parents_at graph k) id
    → (j : ℕ) × (j < k) × (place_from 0 graph id ≡ Some j)
parent_before graph k id first l c =
    let r = has_front 0 graph id k (none_missing (take k graph) (parents_at graph k) c.0 id (first k nobody l).1 c.1 c.2) in
    let m : 0 + r.0 ≡ r.0 = omega arith in
    (r.0, r.1, r.2 ∙ ap Some m)

-- ---- marks

pub length_mark : (marks : List Bool) (place : Option ℕ) → length (mark marks place) ≡ length marks
length_mark marks None = refl
length_mark marks (Some k) = length-set marks k true

pub mark_keeps : (marks : List Bool) (place : Option ℕ) (k : ℕ) → k < length marks → is_marked marks k ≡ true → is_marked (mark marks place) k ≡ true
mark_keeps marks None k l e = e
mark_keeps marks (Some j) k l e = at (eqb k j) refl
  where
    at : (t : Bool) → eqb k j ≡ t → get_or (set marks j true) k false ≡ true
    at true b =
        let same : k ≡ j = (Decides-eqb k j).0 b in subst (λ (i : ℕ). get_or (set marks i true) k false ≡ true) same (get_or-set_same marks k true false l)
    at false b = let ne : k ≢ j = (λ q. let o = (Decides-eqb k j).1 q in cc) in get_or-set_other marks j k true false ne ∙ e

pub mark_only : (marks : List Bool) (place : Option ℕ) (k : ℕ) → is_marked (mark marks place) k ≡ true → (is_marked marks k ≡ true) ⊎ (place ≡ Some k)
mark_only marks None k e = inl e
mark_only marks (Some j) k e = at (eqb k j) refl
  where
    at : (t : Bool) → eqb k j ≡ t → (get_or marks k false ≡ true) ⊎ (Some j ≡ Some k)
    at true b = let same : k ≡ j = (Decides-eqb k j).0 b in inr (ap Some (sym same))
    at false b = let ne : k ≢ j = (λ q. let o = (Decides-eqb k j).1 q in cc) in inl (sym (get_or-set_other marks j k true false ne) ∙ e)

pub length_mark_each : (graph : List Node) (ids : List (List ℕ)) (marks : List Bool) → length (mark_each graph ids marks) ≡ length marks
length_mark_each graph [] marks = refl
length_mark_each graph (id ∷ ids) marks = length_mark_each graph ids (mark marks (place_from 0 graph id)) ∙ length_mark marks (place_from 0 graph id)

pub mark_each_keeps : (graph : List Node) (ids : List (List ℕ)) (marks : List Bool) (k : ℕ) → k < length marks → is_marked marks k ≡ true
    → is_marked (mark_each graph ids marks) k ≡ true
mark_each_keeps graph [] marks k l e = e
mark_each_keeps graph (id ∷ ids) marks k l e =
    mark_each_keeps graph ids (mark marks (place_from 0 graph id)) k (omega (arith, length_mark marks (place_from 0 graph id))) (mark_keeps marks (place_from 0 graph id) k l e)

pub mark_each_marks : (graph : List Node) (ids : List (List ℕ)) (marks : List Bool) (k : ℕ) (id : List ℕ) → k < length marks → Contains ids id
    → place_from 0 graph id ≡ Some k → is_marked (mark_each graph ids marks) k ≡ true
mark_each_marks graph [] marks k id l c e = let none : c.0 < 0 = c.1 in absurd (omega arith)
mark_each_marks graph (other ∷ ids) marks k id l c e =
    at (λ i h is. mark_each_marks graph ids (mark marks (place_from 0 graph other)) k id (omega (arith, length_mark marks (place_from 0 graph other))) (i, h, is) e) c.0 c.1 c.2
  where
    at : ((i : ℕ) → i < length ids → get_or ids i id ≡ id → is_marked (mark_each graph ids (mark marks (place_from 0 graph other))) k ≡ true)
        → (i : ℕ) → i < length (other ∷ ids) → get_or (other ∷ ids) i id ≡ id
        → is_marked (mark_each graph ids (mark marks (place_from 0 graph other))) k ≡ true
    at rest zero h is =
        let same : place_from 0 graph other ≡ Some k = ap (place_from 0 graph) is ∙ e in
        mark_each_keeps graph ids (mark marks (place_from 0 graph other)) k (omega (arith, length_mark marks (place_from 0 graph other))) (subst (λ (p : Option ℕ). is_marked (mark marks p) k ≡ true) (sym same) (get_or-set_same marks k true false l))
    at rest (suc i) h is = rest i (omega arith) is

-- a place that got its mark from one of some ids
pub record MarkedBy (graph : List Node) (ids : List (List ℕ)) (k : ℕ) : Type 0 where
  pub id : List ℕ
  pub among : Contains ids id
  pub placed_is : place_from 0 graph id ≡ Some k

pub mark_each_only : (graph : List Node) (ids : List (List ℕ)) (marks : List Bool) (k : ℕ) → is_marked (mark_each graph ids marks) k ≡ true
    → (is_marked marks k ≡ true) ⊎ MarkedBy graph ids k
mark_each_only graph [] marks k e = inl e
mark_each_only graph (id ∷ ids) marks k e = at (mark_each_only graph ids (mark marks (place_from 0 graph id)) k e)
  where
    last : (is_marked marks k ≡ true) ⊎ (place_from 0 graph id ≡ Some k) → (is_marked marks k ≡ true) ⊎ MarkedBy graph (id ∷ ids) k
    last (inl was) = inl was
    last (inr is) = inr (record { id = id; among = (0, omega arith, refl); placed_is = is })

    at : (is_marked (mark marks (place_from 0 graph id)) k ≡ true) ⊎ MarkedBy graph ids k → (is_marked marks k ≡ true) ⊎ MarkedBy graph (id ∷ ids) k
    at (inl was) = last (mark_only marks (place_from 0 graph id) k was)
    at (inr by) =
        let l : by.among.0 < length ids = by.among.1 in inr (record { id = by.id; among = (suc by.among.0, omega arith, by.among.2); placed_is = by.placed_is })
