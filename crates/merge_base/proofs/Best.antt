-- The common ancestors that are no parents of one are the merge bases.
use Rattle.std.proofs.Common.{◌≡◌, ◌≢◌, ◌⊎◌, ◌↔◌, inl, inr, ℕ, zero, suc, ◌<◌, Bool, true, false, cond, not, ◌&&◌, eqb, List, [], ◌∷◌, ◌++◌, length, get_or, Some, Contains, refl, sym, ap, subst, ◌∙◌, arith}
use Rattle.std.proofs.lemmas.Bool.Decides.{Decides-eqb}
use Rattle.std.proofs.lemmas.List.{get_or_default, length-replicate}
use Rattle.std.proofs.lemmas.List.Elements.{Contains-append_left, Contains-push, Contains-push_cases}
use Rattle.merge_base.specs.declared.graph.Node.{Node}
use Rattle.merge_base.specs.Graphs.{ParentsFirst, has, place_from}
use Rattle.merge_base.specs.Bases.{Ancestors, IsBase, itself, parent_of}
use Rattle.merge_base.specs.Marks.{MarkAncestors, are_both_marked, id_at, is_marked, left_of_both, mark_each, nobody, parents_at, parents_of_both}
use Rattle.merge_base.proofs.Marking.{MarkedBy, id_placed, length_mark_each, mark_each_keeps, mark_each_marks, mark_each_only, parent_before, place_at}
use Rattle.merge_base.proofs.Reaching.{ancestor_placed, ancestors_of_ancestor, marked_ancestor, unmarked}

and_first : (s t : Bool) → (s && t) ≡ true → s ≡ true
and_first true t e = refl
and_first false t e = cc

and_second : (s t : Bool) → (s && t) ≡ true → t ≡ true
and_second true t e = e
and_second false t e = cc

and_both : (s t : Bool) → s ≡ true → t ≡ true → (s && t) ≡ true
and_both s t a b = rw a b

not_of_not : (t : Bool) → not t ≡ true → t ≡ true → ⊥
not_of_not true e f = cc
not_of_not false e f = cc

not_of_false : (t : Bool) → (t ≡ true → ⊥) → not t ≡ true
not_of_false true f = absurd (f refl)
not_of_false false f = refl

-- ---- the parents of common ancestors

pub length_parents : (graph : List Node) (ones others : List Bool) (n : ℕ) → length (parents_of_both graph ones others n) ≡ length graph
length_parents graph ones others zero = length-replicate (length graph) false
length_parents graph ones others (suc n) = at (length_parents graph ones others n) (are_both_marked ones others n)
  where
    at : length (parents_of_both graph ones others n) ≡ length graph → (t : Bool)
        → length (cond t (mark_each graph (parents_at graph n) (parents_of_both graph ones others n)) (parents_of_both graph ones others n)) ≡ length graph
    at rest true = length_mark_each graph (parents_at graph n) (parents_of_both graph ones others n) ∙ rest
    at rest false = rest

-- a child that both mark
record HasChild (graph : List Node) (ones others : List Bool) (n k : ℕ) : Type 0 where
  child : ℕ
  before : child < n
  common : are_both_marked ones others child ≡ true
  by : MarkedBy graph (parents_at graph child) k

parents_only : (graph : List Node) (ones others : List Bool) (n k : ℕ) → is_marked (parents_of_both graph ones others n) k ≡ true
    → HasChild graph ones others n k
parents_only graph ones others zero k e = absurd (unmarked (length graph) k e)
parents_only graph ones others (suc n) k e = at (λ e. more (parents_only graph ones others n k e)) (are_both_marked ones others n) refl e
  where
    more : HasChild graph ones others n k → HasChild graph ones others (suc n) k
    more h = record { child = h.child; before = omega (arith, h.before); common = h.common; by = h.by }

    at : (is_marked (parents_of_both graph ones others n) k ≡ true → HasChild graph ones others (suc n) k) → (t : Bool)
        → are_both_marked ones others n ≡ t
        → is_marked (cond t (mark_each graph (parents_at graph n) (parents_of_both graph ones others n)) (parents_of_both graph ones others n)) k ≡ true
        → HasChild graph ones others (suc n) k
    at rest false both e = rest e
    at rest true both e = last (mark_each_only graph (parents_at graph n) (parents_of_both graph ones others n) k e)
      where
        last : (is_marked (parents_of_both graph ones others n) k ≡ true) ⊎ MarkedBy graph (parents_at graph n) k
            → HasChild graph ones others (suc n) k
        last (inl was) = rest was
        last (inr by) = record { child = n; before = omega arith; common = both; by = by }

parents_all : (graph : List Node) (ones others : List Bool) (n k child : ℕ) (id : List ℕ) → k < length graph → child < n
    → are_both_marked ones others child ≡ true → Contains (parents_at graph child) id → place_from 0 graph id ≡ Some k
    → is_marked (parents_of_both graph ones others n) k ≡ true
parents_all graph ones others zero k child id l b common c e = absurd (omega arith)
parents_all graph ones others (suc n) k child id l b common c e =
    at (λ b. parents_all graph ones others n k child id l b common c e) (eqb child n) refl (are_both_marked ones others n) refl
  where
    at : (child < n → is_marked (parents_of_both graph ones others n) k ≡ true) → (s : Bool) → eqb child n ≡ s → (t : Bool)
        → are_both_marked ones others n ≡ t
        → is_marked (cond t (mark_each graph (parents_at graph n) (parents_of_both graph ones others n)) (parents_of_both graph ones others n)) k ≡ true
    at rest true s true t =
        let is : child ≡ n = (Decides-eqb child n).0 s in
        mark_each_marks graph (parents_at graph n) (parents_of_both graph ones others n) k id (omega (arith, length_parents graph ones others n)) (subst (λ (i : ℕ). Contains (parents_at graph i) id) is c) e
    at rest true s false t =
        let is : child ≡ n = (Decides-eqb child n).0 s in
        let yes : are_both_marked ones others n ≡ true = subst (λ (i : ℕ). are_both_marked ones others i ≡ true) is common in
        absurd cc
    at rest false s true t =
        let ne : child ≢ n = (λ q. let o = (Decides-eqb child n).1 q in cc) in
        mark_each_keeps graph (parents_at graph n) (parents_of_both graph ones others n) k (omega (arith, length_parents graph ones others n)) (rest (omega (arith, ne)))
    at rest false s false t =
        let ne : child ≢ n = (λ q. let o = (Decides-eqb child n).1 q in cc) in
        rest (omega (arith, ne))

-- ---- what is left

pub record IsLeft (graph : List Node) (ones others without : List Bool) (n : ℕ) (id : List ℕ) : Type 0 where
  pub at : ℕ
  pub before : at < n
  pub common : are_both_marked ones others at ≡ true
  pub apart : not (is_marked without at) ≡ true
  pub is : id_at graph at ≡ id

pub left_only : (graph : List Node) (ones others without : List Bool) (n : ℕ) (id : List ℕ) → Contains (left_of_both graph ones others without n) id
    → IsLeft graph ones others without n id
left_only graph ones others without zero id c = let none : c.0 < 0 = c.1 in absurd (omega arith)
left_only graph ones others without (suc n) id c =
    at (λ c. more (left_only graph ones others without n id c)) (are_both_marked ones others n && not (is_marked without n)) refl c
  where
    more : IsLeft graph ones others without n id → IsLeft graph ones others without (suc n) id
    more h = record { at = h.at; before = omega (arith, h.before); common = h.common; apart = h.apart; is = h.is }

    at : (Contains (left_of_both graph ones others without n) id → IsLeft graph ones others without (suc n) id) → (t : Bool)
        → (are_both_marked ones others n && not (is_marked without n)) ≡ t
        → Contains (cond t (left_of_both graph ones others without n ++ id_at graph n ∷ []) (left_of_both graph ones others without n)) id
        → IsLeft graph ones others without (suc n) id
    at rest false t c = rest c
    at rest true t c = last (Contains-push_cases (left_of_both graph ones others without n) (id_at graph n) id c)
      where
        last : Contains (left_of_both graph ones others without n) id ⊎ (id_at graph n ≡ id) → IsLeft graph ones others without (suc n) id
        last (inl c) = rest c
        last (inr is) =
            record { at = n; before = omega arith; common = and_first (are_both_marked ones others n) (not (is_marked without n)) t; apart = and_second (are_both_marked ones others n) (not (is_marked without n)) t; is = is }

left_all : (graph : List Node) (ones others without : List Bool) (n k : ℕ) → k < n → are_both_marked ones others k ≡ true
    → not (is_marked without k) ≡ true → Contains (left_of_both graph ones others without n) (id_at graph k)
left_all graph ones others without zero k l common apart = absurd (omega arith)
left_all graph ones others without (suc n) k l common apart =
    at (λ l. left_all graph ones others without n k l common apart) (eqb k n) refl (are_both_marked ones others n && not (is_marked without n)) refl
  where
    at : (k < n → Contains (left_of_both graph ones others without n) (id_at graph k)) → (s : Bool) → eqb k n ≡ s → (t : Bool)
        → (are_both_marked ones others n && not (is_marked without n)) ≡ t
        → Contains (cond t (left_of_both graph ones others without n ++ id_at graph n ∷ []) (left_of_both graph ones others without n)) (id_at graph k)
    at rest true s true t =
        let is : k ≡ n = (Decides-eqb k n).0 s in
        subst (λ (i : ℕ). Contains (left_of_both graph ones others without n ++ id_at graph n ∷ []) (id_at graph i)) (sym is) (Contains-push (left_of_both graph ones others without n) (id_at graph n))
    at rest true s false t =
        let is : k ≡ n = (Decides-eqb k n).0 s in
        let yes : (are_both_marked ones others n && not (is_marked without n)) ≡ true = subst (λ (i : ℕ). (are_both_marked ones others i && not (is_marked without i)) ≡ true) is (and_both _ _ common apart) in
        absurd cc
    at rest false s true t =
        let ne : k ≢ n = (λ q. let o = (Decides-eqb k n).1 q in cc) in
        Contains-append_left (left_of_both graph ones others without n) (id_at graph n ∷ []) (id_at graph k) (rest (omega (arith, ne)))
    at rest false s false t =
        let ne : k ≢ n = (λ q. let o = (Decides-eqb k n).1 q in cc) in
        rest (omega (arith, ne))

-- ---- merge bases

pub record AreSearched (graph : List Node) (a b : List ℕ) (of_a of_b : List Bool) : Type 0 where
  pub first : ParentsFirst graph
  pub has_a : has graph a ≡ true
  pub marks_a : MarkAncestors graph a of_a
  pub marks_b : MarkAncestors graph b of_b

common_marked : (graph : List Node) (a b : List ℕ) (of_a of_b : List Bool) → AreSearched graph a b of_a of_b → (id : List ℕ) (k : ℕ)
    → place_from 0 graph id ≡ Some k → Ancestors graph a id → Ancestors graph b id → are_both_marked of_a of_b k ≡ true
common_marked graph a b of_a of_b s id k e in_a in_b =
    and_both _ _ (marked_ancestor graph a of_a s.first s.marks_a id k e in_a) (marked_ancestor graph b of_b s.first s.marks_b id k e in_b)

left_is_base : (graph : List Node) (a b : List ℕ) (of_a of_b : List Bool) → AreSearched graph a b of_a of_b → (id : List ℕ)
    → IsLeft graph of_a of_b (parents_of_both graph of_a of_b (length graph)) (length graph) id → IsBase graph a b id
left_is_base graph a b of_a of_b s id left = record {
  of_a = in_a;
  of_b = in_b;
  best = λ other other_a other_b above. best other id other_a other_b above refl;
}
  where
    in_a : Ancestors graph a id
    in_a =
        subst (Ancestors graph a) left.is ((s.marks_a.each left.at left.before).0 (and_first (is_marked of_a left.at) (is_marked of_b left.at) left.common))

    in_b : Ancestors graph b id
    in_b =
        subst (Ancestors graph b) left.is ((s.marks_b.each left.at left.before).0 (and_second (is_marked of_a left.at) (is_marked of_b left.at) left.common))

    best : (other base : List ℕ) → Ancestors graph a other → Ancestors graph b other → Ancestors graph other base → base ≡ id → base ≡ other
    best other _ other_a other_b itself e = refl
    best other _ other_a other_b (parent_of node base inside above parent) e =
        let m = inside.0 in
        let in' : m < length graph = inside.1 in
        let node_is : get_or graph m nobody ≡ node = get_or_default graph m nobody node in' ∙ inside.2 in
        let here : place_from 0 graph node.id ≡ Some m = ap (λ (n : Node). place_from 0 graph n.id) (sym node_is) ∙ place_at graph m s.first in' in
        let common = common_marked graph a b of_a of_b s node.id m here (ancestors_of_ancestor graph a other node.id other_a above) (ancestors_of_ancestor graph b other node.id other_b above) in
        let c : Contains (parents_at graph m) base = subst (λ (n : Node). Contains n.parents base) (sym node_is) parent in
        let placed_is : place_from 0 graph base ≡ Some left.at = ap (place_from 0 graph) (e ∙ sym left.is) ∙ place_at graph left.at s.first left.before in
        absurd (not_of_not (is_marked (parents_of_both graph of_a of_b (length graph)) left.at) left.apart (parents_all graph of_a of_b (length graph) left.at m base left.before in' common c placed_is))

base_is_left : (graph : List Node) (a b : List ℕ) (of_a of_b : List Bool) → AreSearched graph a b of_a of_b → (id : List ℕ) → IsBase graph a b id
    → Contains (left_of_both graph of_a of_b (parents_of_both graph of_a of_b (length graph)) (length graph)) id
base_is_left graph a b of_a of_b s id base =
    let p = ancestor_placed graph a s.first s.has_a id base.of_a in
    let at = id_placed graph id p.0 p.1 in
    let common = common_marked graph a b of_a of_b s id p.0 p.1 base.of_a base.of_b in
    subst (Contains (left_of_both graph of_a of_b (parents_of_both graph of_a of_b (length graph)) (length graph))) at.1
    (left_all graph of_a of_b (parents_of_both graph of_a of_b (length graph)) (length graph) p.0 at.0 common (not_of_false _ (λ e. no_child p.0 p.1 (parents_only graph of_a of_b (length graph) p.0 e))))
  where
    no_child : (k : ℕ) → place_from 0 graph id ≡ Some k → HasChild graph of_a of_b (length graph) k → ⊥
    no_child k e h =
        let m = h.child in
        let in' : m < length graph = h.before in
        let both : (is_marked of_a m && is_marked of_b m) ≡ true = h.common in
        let in_a = (s.marks_a.each m in').0 (and_first (is_marked of_a m) (is_marked of_b m) both) in
        let in_b = (s.marks_b.each m in').0 (and_second (is_marked of_a m) (is_marked of_b m) both) in
        let same : h.by.id ≡ id = sym (id_placed graph h.by.id k h.by.placed_is).1 ∙ (id_placed graph id k e).1 in
        let c : Contains (parents_at graph m) id = subst (Contains (parents_at graph m)) same h.by.among in
        let node = get_or graph m nobody in
        let below : Ancestors graph (id_at graph m) id = parent_of node id (m, in', get_or_default graph m node nobody in') itself c in
        let is : id ≡ id_at graph m = base.best (id_at graph m) in_a in_b below in
        let before = parent_before graph m id s.first in' c in
        let twice : Some before.0 ≡ Some m = sym before.2 ∙ ap (place_from 0 graph) is ∙ place_at graph m s.first in' in
        let eq : before.0 ≡ m = cc in
        omega (arith, before.1, eq)

pub left_are_bases : (graph : List Node) (a b : List ℕ) (of_a of_b : List Bool) → AreSearched graph a b of_a of_b → (id : List ℕ)
    → Contains (left_of_both graph of_a of_b (parents_of_both graph of_a of_b (length graph)) (length graph)) id ↔ IsBase graph a b id
left_are_bases graph a b of_a of_b s id =
    (λ c. left_is_base graph a b of_a of_b s id (left_only graph of_a of_b (parents_of_both graph of_a of_b (length graph)) (length graph) id c), base_is_left graph a b of_a of_b s id)
