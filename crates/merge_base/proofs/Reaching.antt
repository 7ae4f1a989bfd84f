-- A search from some commits marks exactly these and their ancestors.
use Rattle.std.proofs.Common.{◌≡◌, ◌≢◌, ◌⊎◌, inl, inr, ℕ, zero, suc, ◌<◌, ◌≤◌, Bool, true, false, cond, eqb, List, length, get_or, replicate, Option, Some, None, Contains, is_some, refl, sym, ap, subst, ◌∙◌, arith}
use Rattle.std.proofs.lemmas.Bool.Decides.{Decides-eqb}
use Rattle.std.proofs.lemmas.List.{get_or_default, length-replicate}
use Rattle.merge_base.specs.declared.graph.Node.{Node}
use Rattle.merge_base.specs.Graphs.{ParentsFirst, has, place_from}
use Rattle.merge_base.specs.Bases.{Ancestors, itself, parent_of}
use Rattle.merge_base.specs.Ranges.{Reached}
use Rattle.merge_base.specs.Marks.{MarkAncestors, MarkReached, id_at, is_marked, mark_each, mark_older, nobody, parents_at}
use Rattle.merge_base.proofs.Places.{place_has}
use Rattle.merge_base.proofs.Marking.{MarkedBy, id_placed, length_mark_each, mark_each_keeps, mark_each_marks, mark_each_only, parent_before, place_at}

-- the parents of the marked commits from a place on are marked
record IsClosed (graph : List Node) (from : ℕ) (marks : List Bool) : Type 0 where
  closed : (k j : ℕ) (id : List ℕ) → from ≤ k → k < length graph → is_marked marks k ≡ true → Contains (parents_at graph k) id
      → place_from 0 graph id ≡ Some j → is_marked marks j ≡ true

record IsOlder (graph : List Node) (marks after : List Bool) : Type 0 where
  length_is : length after ≡ length graph
  keeps : (k : ℕ) → k < length graph → is_marked marks k ≡ true → is_marked after k ≡ true
  closed : IsClosed graph 0 after

one_more : (graph : List Node) (place : ℕ) (marks : List Bool) → ParentsFirst graph → place < length graph → length marks ≡ length graph
    → IsClosed graph (suc place) marks → is_marked marks place ≡ true → IsClosed graph place (mark_each graph (parents_at graph place) marks)
one_more graph place marks first l same was here =
    record { closed = λ k j id at in' e c p. from k j id at in' c p (eqb k place) refl (mark_each_only graph (parents_at graph place) marks k e) }
  where
    from : (k j : ℕ) (id : List ℕ) → place ≤ k → k < length graph → Contains (parents_at graph k) id → place_from 0 graph id ≡ Some j → (t : Bool)
        → eqb k place ≡ t → (is_marked marks k ≡ true) ⊎ MarkedBy graph (parents_at graph place) k
        → is_marked (mark_each graph (parents_at graph place) marks) j ≡ true
    from k j id at in' c p true b why =
        let is : k ≡ place = (Decides-eqb k place).0 b in
        let in'' = (id_placed graph id j p).0 in
        mark_each_marks graph (parents_at graph place) marks j id (omega (arith, same)) (subst (λ (i : ℕ). Contains (parents_at graph i) id) is c) p
    from k j id at in' c p false b (inl e) =
        let ne : k ≢ place = (λ q. let o = (Decides-eqb k place).1 q in cc) in
        let in'' = (id_placed graph id j p).0 in
        mark_each_keeps graph (parents_at graph place) marks j (omega (arith, same)) (was.closed k j id (omega (arith, ne)) in' e c p)
    from k j id at in' c p false b (inr by) =
        let r = parent_before graph place by.id first l by.among in
        let is : Some r.0 ≡ Some k = sym r.2 ∙ by.placed_is in
        let m : r.0 ≡ k = cc in
        absurd (omega (arith, r.1, m))

closed_rest : (graph : List Node) (place : ℕ) (marks : List Bool) → IsClosed graph (suc place) marks → is_marked marks place ≡ false
    → IsClosed graph place marks
closed_rest graph place marks was none = record { closed = λ k j id at in' e c p. from k j id at in' e c p (eqb k place) refl }
  where
    from : (k j : ℕ) (id : List ℕ) → place ≤ k → k < length graph → is_marked marks k ≡ true → Contains (parents_at graph k) id
        → place_from 0 graph id ≡ Some j → (t : Bool) → eqb k place ≡ t → is_marked marks j ≡ true
    from k j id at in' e c p true b =
        let is : k ≡ place = (Decides-eqb k place).0 b in
        let e' : is_marked marks place ≡ true = subst (λ (i : ℕ). is_marked marks i ≡ true) is e in
        absurd cc
    from k j id at in' e c p false b =
        let ne : k ≢ place = (λ q. let o = (Decides-eqb k place).1 q in cc) in
        was.closed k j id (omega (arith, ne)) in' e c p

older : (graph : List Node) (place : ℕ) (marks : List Bool) → ParentsFirst graph → place ≤ length graph → length marks ≡ length graph
    → IsClosed graph place marks → IsOlder graph marks (mark_older graph place marks)
older graph zero marks first l same was = record { length_is = same; keeps = λ k l e. e; closed = was }
older graph (suc place) marks first l same was =
    at (λ marks same was. older graph place marks first (omega arith) same was) (is_marked marks place) refl
  where
    at : ((marks : List Bool) → length marks ≡ length graph → IsClosed graph place marks → IsOlder graph marks (mark_older graph place marks))
        → (t : Bool) → is_marked marks place ≡ t
        → IsOlder graph marks (mark_older graph place (cond t (mark_each graph (parents_at graph place) marks) marks))
    at rest true e =
        let in' : place < length graph = omega arith in
        let len = length_mark_each graph (parents_at graph place) marks in
        let r = rest (mark_each graph (parents_at graph place) marks) (len ∙ same) (one_more graph place marks first in' same was e) in
        record { length_is = r.length_is; keeps = λ k l e. r.keeps k l (mark_each_keeps graph (parents_at graph place) marks k (omega (arith, same)) e); closed = r.closed }
    at rest false e = rest marks same (closed_rest graph place marks was e)

-- only what is reached from what was marked is marked
older_only : (graph : List Node) (P : ℕ → Type 0)
    → ((k j : ℕ) (id : List ℕ) → k < length graph → P k → Contains (parents_at graph k) id → place_from 0 graph id ≡ Some j → P j) → (place : ℕ)
    → place ≤ length graph → (marks : List Bool) → ((k : ℕ) → is_marked marks k ≡ true → P k) → (k : ℕ)
    → is_marked (mark_older graph place marks) k ≡ true → P k
older_only graph P step zero l marks was k e = was k e
older_only graph P step (suc place) l marks was k e =
    at (λ marks was e. older_only graph P step place (omega arith) marks was k e) (is_marked marks place) refl e
  where
    at : ((marks : List Bool) → ((k : ℕ) → is_marked marks k ≡ true → P k) → is_marked (mark_older graph place marks) k ≡ true → P k) → (t : Bool)
        → is_marked marks place ≡ t → is_marked (mark_older graph place (cond t (mark_each graph (parents_at graph place) marks) marks)) k ≡ true
        → P k
    at rest false is e = rest marks was e
    at rest true is e =
        rest (mark_each graph (parents_at graph place) marks) (λ j e. by j (mark_each_only graph (parents_at graph place) marks j e)) e
      where
        by : (j : ℕ) → (is_marked marks j ≡ true) ⊎ MarkedBy graph (parents_at graph place) j → P j
        by j (inl e) = was j e
        by j (inr m) = let in' : place < length graph = omega arith in step place j m.id in' (was place is) m.among m.placed_is

-- ---- ancestors

-- a commit that stands in the graph and is marked
pub record IsReached (graph : List Node) (marks : List Bool) (id : List ℕ) : Type 0 where
  pub at : ℕ
  pub is : place_from 0 graph id ≡ Some at
  pub marked : is_marked marks at ≡ true

reached : (graph : List Node) (marks : List Bool) (commit : List ℕ) → ParentsFirst graph → IsClosed graph 0 marks → IsReached graph marks commit
    → (id : List ℕ) → Ancestors graph commit id → IsReached graph marks id
reached graph marks commit first closed start _ itself = start
reached graph marks commit first closed start _ (parent_of node id inside above parent) =
    next (reached graph marks commit first closed start node.id above)
  where
    next : IsReached graph marks node.id → IsReached graph marks id
    next r =
        let m = inside.0 in
        let in' : m < length graph = inside.1 in
        let node_is : get_or graph m nobody ≡ node = get_or_default graph m nobody node in' ∙ inside.2 in
        let here : place_from 0 graph node.id ≡ Some m = ap (λ (n : Node). place_from 0 graph n.id) (sym node_is) ∙ place_at graph m first in' in
        let same : Some r.at ≡ Some m = sym r.is ∙ here in
        let at_is : r.at ≡ m = cc in
        let c : Contains (parents_at graph m) id = subst (λ (n : Node). Contains n.parents id) (sym node_is) parent in
        let before = parent_before graph m id first in' c in
        record { at = before.0; is = before.2; marked = closed.closed m before.0 id (omega arith) in' (subst (λ (i : ℕ). is_marked marks i ≡ true) at_is r.marked) c before.2 }

ancestor_step : (graph : List Node) (commit : List ℕ) (k j : ℕ) (id : List ℕ) → k < length graph → Ancestors graph commit (id_at graph k)
    → Contains (parents_at graph k) id → place_from 0 graph id ≡ Some j → Ancestors graph commit (id_at graph j)
ancestor_step graph commit k j id l a c p =
    subst (Ancestors graph commit) (sym (id_placed graph id j p).1) (parent_of (get_or graph k nobody) id (k, l, get_or_default graph k (get_or graph k nobody) nobody l) a c)

pub unmarked : (n k : ℕ) → is_marked (replicate n false) k ≡ true → ⊥
unmarked zero k e = cc
unmarked (suc n) zero e = cc
unmarked (suc n) (suc k) e = unmarked n k e

begun_only : (graph : List Node) (tips : List (List ℕ)) (k : ℕ) → is_marked (mark_each graph tips (replicate (length graph) false)) k ≡ true
    → Reached graph tips (id_at graph k)
begun_only graph tips k e = at (mark_each_only graph tips (replicate (length graph) false) k e)
  where
    at : (is_marked (replicate (length graph) false) k ≡ true) ⊎ MarkedBy graph tips k → Reached graph tips (id_at graph k)
    at (inl was) = absurd (unmarked (length graph) k was)
    at (inr by) =
        record { tip = by.id; among = by.among; above = subst (Ancestors graph by.id) (sym (id_placed graph by.id k by.placed_is).1) itself }

reached_step : (graph : List Node) (tips : List (List ℕ)) (k j : ℕ) (id : List ℕ) → k < length graph → Reached graph tips (id_at graph k)
    → Contains (parents_at graph k) id → place_from 0 graph id ≡ Some j → Reached graph tips (id_at graph j)
reached_step graph tips k j id l r c p = record { tip = r.tip; among = r.among; above = ancestor_step graph r.tip k j id l r.above c p }

-- what reaches a commit of the graph is in it
tip_placed : (graph : List Node) (tip : List ℕ) → ParentsFirst graph → (id : List ℕ) → Ancestors graph tip id → (k : ℕ)
    → place_from 0 graph id ≡ Some k → (p : ℕ) × (place_from 0 graph tip ≡ Some p)
tip_placed graph tip first _ itself k e = (k, e)
tip_placed graph tip first _ (parent_of node id inside above parent) k e =
    let m = inside.0 in
    let in' : m < length graph = inside.1 in
    let node_is : get_or graph m nobody ≡ node = get_or_default graph m nobody node in' ∙ inside.2 in
    tip_placed graph tip first node.id above m (ap (λ (n : Node). place_from 0 graph n.id) (sym node_is) ∙ place_at graph m first in')

pub reached_marked : (graph : List Node) (tips : List (List ℕ)) → ParentsFirst graph
    → MarkReached graph tips (mark_older graph (length graph) (mark_each graph tips (replicate (length graph) false)))
reached_marked graph tips first =
    let blank = replicate (length graph) false in
    let begun = mark_each graph tips blank in
    let long : length blank ≡ length graph = length-replicate (length graph) false in
    let len : length begun ≡ length graph = length_mark_each graph tips blank ∙ long in
    let after = mark_older graph (length graph) begun in
    let o = older graph (length graph) begun first (omega arith) len (record { closed = λ k j id at l e c p. absurd (omega arith) }) in
    let start : (tip : List ℕ) → Contains tips tip → (p : ℕ) → place_from 0 graph tip ≡ Some p → IsReached graph after tip = λ tip c p e.
    let in' = (id_placed graph tip p e).0 in
    record { at = p; is = e; marked = o.keeps p in' (mark_each_marks graph tips blank p tip (omega (arith, long)) c e) } in
    record {
      length_is = o.length_is;
      each = λ place l. (
        λ m. older_only graph (λ k. Reached graph tips (id_at graph k)) (reached_step graph tips) (length graph) (omega arith) begun (begun_only graph tips) place m,
        λ r.
            let p = tip_placed graph r.tip first (id_at graph place) r.above place (place_at graph place first l) in
            let got = reached graph after r.tip first o.closed (start r.tip r.among p.0 p.1) (id_at graph place) r.above in
            let same : Some got.at ≡ Some place = sym got.is ∙ place_at graph place first l in
            let at_is : got.at ≡ place = cc in
            subst (λ (i : ℕ). is_marked after i ≡ true) at_is got.marked,
      );
    }

-- ---- one commit

-- the place of a commit that is an ancestor is marked
pub marked_ancestor : (graph : List Node) (commit : List ℕ) (marks : List Bool) → ParentsFirst graph → MarkAncestors graph commit marks
    → (id : List ℕ) (k : ℕ) → place_from 0 graph id ≡ Some k → Ancestors graph commit id → is_marked marks k ≡ true
marked_ancestor graph commit marks first m id k e a = let p = id_placed graph id k e in (m.each k p.0).1 (subst (Ancestors graph commit) (sym p.1) a)

-- each ancestor of a commit in the graph is in it
pub ancestor_placed : (graph : List Node) (commit : List ℕ) → ParentsFirst graph → has graph commit ≡ true → (id : List ℕ) → Ancestors graph commit id
    → (k : ℕ) × (place_from 0 graph id ≡ Some k)
ancestor_placed graph commit first there _ itself = at (place_from 0 graph commit) refl
  where
    at : (p : Option ℕ) → place_from 0 graph commit ≡ p → (k : ℕ) × (p ≡ Some k)
    at None e = let h = place_has 0 graph commit in let none : is_some (place_from 0 graph commit) ≡ false = ap is_some e in absurd cc
    at (Some k) e = (k, refl)
ancestor_placed graph commit first there _ (parent_of node id inside above parent) =
    let m = inside.0 in
    let in' : m < length graph = inside.1 in
    let node_is : get_or graph m nobody ≡ node = get_or_default graph m nobody node in' ∙ inside.2 in
    let c : Contains (parents_at graph m) id = subst (λ (n : Node). Contains n.parents id) (sym node_is) parent in
    let before = parent_before graph m id first in' c in
    (before.0, before.2)

pub ancestors_of_ancestor : (graph : List Node) (a b c : List ℕ) → Ancestors graph a b → Ancestors graph b c → Ancestors graph a c
ancestors_of_ancestor graph a b _ ab itself = ab
ancestors_of_ancestor graph a b _ ab (parent_of node id inside above parent) =
    parent_of node id inside (ancestors_of_ancestor graph a b node.id ab above) parent
