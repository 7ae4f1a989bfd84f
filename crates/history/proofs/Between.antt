-- What a walk lists is exactly what its tips reach and is not excluded, each once and behind its parents.
use Rattle.std.proofs.Common.{◌≡◌, ◌⊎◌, inl, inr, ℕ, zero, suc, ◌+◌, ◌<◌, Bool, true, false, cond, ◌||◌, List, [], ◌∷◌, ◌++◌, length, get_or, fold, Some, None, Contains, refl, sym, ap, subst, ◌∙◌, arith}
use Rattle.std.proofs.lemmas.Bool.{or_from, or_parts, or_right}
use Rattle.std.proofs.lemmas.List.{get_or_default}
use Rattle.std.specs.Str.{bytes_eq}
use Rattle.std.proofs.lemmas.Slice.Eq.{bytes_eq-Decides}
use Rattle.merge_base.specs.declared.graph.Node.{Node}
use Rattle.merge_base.specs.Bases.{Ancestors, itself, parent_of}
use Rattle.merge_base.specs.Graphs.{ParentsFirst, first_missing, is_among, parents_of, place_from}
use Rattle.merge_base.specs.Marks.{nobody}
use Rattle.merge_base.specs.Ranges.{Reached, is_passed, met, range, walk}
use Rattle.merge_base.proofs.Marking.{id_placed, place_at}
use Rattle.merge_base.proofs.Reaching.{ancestors_of_ancestor}
use Rattle.history.specs.Laws.{AreParentsFirst, IsRange}
use Rattle.history.proofs.Ranging.{Ids, Keeps, StandBefore, among_last, among_push, keeps_more, keeps_on, missing_first, parents_are, parents_before, passed_among, passed_more, placed_tip}

-- what is listed so far
pub record IsListed (ex : List ℕ → Bool) (graph : List Node) (ids : Ids) : Type 0 where
  pub kept : (id : List ℕ) → is_among ids id ≡ true → ex id ≡ false
  pub closed : (id parent : List ℕ) → is_among ids id ≡ true → Contains (parents_of graph id) parent → is_passed ex ids parent ≡ true
  pub order : AreParentsFirst graph ids

-- a commit that some tips reach, with a place before one
pub record IsNew (graph : List Node) (tips : Ids) (bound : ℕ) (id : List ℕ) : Type 0 where
  pub reached : Reached graph tips id
  pub place : ℕ
  pub before : place < bound
  pub there : place_from 0 graph id ≡ Some place

pub record Lists (ex : List ℕ → Bool) (graph : List Node) (ids tips : Ids) (bound : ℕ) (more : Ids) : Type 0 where
  pub listed : IsListed ex graph more
  pub new : (id : List ℕ) → is_among more id ≡ true → (is_among ids id ≡ true) ⊎ IsNew graph tips bound id
  pub passed : (tip : List ℕ) → Contains tips tip → is_passed ex more tip ≡ true
  pub keeps : Keeps ids more

none_in : {A : Type 0} (x : List ℕ) → Contains [] x → A
none_in x c = let l : c.0 < 0 = c.1 in absurd (omega arith)

in_cases : (p : List ℕ) (ids : Ids) (id : List ℕ) → Contains (p ∷ ids) id → (p ≡ id) ⊎ Contains ids id
in_cases p ids id c = at c.0 c.1 c.2
  where
    at : (i : ℕ) → i < length (p ∷ ids) → get_or (p ∷ ids) i id ≡ id → (p ≡ id) ⊎ Contains ids id
    at zero l e = inl e
    at (suc i) l e = inr (i, omega arith, e)

in_later : (p : List ℕ) (ids : Ids) (id : List ℕ) → Contains ids id → Contains (p ∷ ids) id
in_later p ids id c = let l : c.0 < length ids = c.1 in (suc c.0, omega arith, c.2)

-- ---- a list with one more commit

differs : (x y : List ℕ) → (x ≡ y → ⊥) → bytes_eq x y ≡ false
differs x y ne = at (bytes_eq x y) refl
  where
    at : (t : Bool) → bytes_eq x y ≡ t → bytes_eq x y ≡ false
    at true e = absurd (ne ((bytes_eq-Decides x y).0 e))
    at false e = e

order_more : (graph : List Node) (ids : Ids) (id : List ℕ) → AreParentsFirst graph ids → is_among ids id ≡ false
    → ((x : List ℕ) → is_among ids x ≡ true → Contains (parents_of graph x) id → ⊥) → (Contains (parents_of graph id) id → ⊥) → AreParentsFirst graph (ids ++ id ∷ [])
order_more graph [] id o new apart alone =
    (refl, λ parent c. or_from (bytes_eq id parent) false (differs id parent (λ e. alone (subst (Contains (parents_of graph id)) (sym e) c))) refl, tt)
order_more graph (x ∷ ids) id o new apart alone =
    let parts = or_parts (bytes_eq x id) (is_among ids id) new in
    let not_x : (id ≡ x → ⊥) = (λ e. let on = (bytes_eq-Decides x id).1 (sym e) in let off = parts.0 in cc) in (
      among_push ids id x ∙ or_from _ _ o.0 (differs id x not_x),
      λ parent c. among_push (x ∷ ids) id parent ∙ or_from _ _ (o.1 parent c) (differs id parent (λ e. apart x (first x) (subst (Contains (parents_of graph x)) (sym e) c))),
      order_more graph ids id o.2 parts.1 (λ y e c. apart y (later y e) c) alone,
    )
  where
    first : (y : List ℕ) → (bytes_eq y y || is_among ids y) ≡ true
    first y = ap (λ (t : Bool). t || is_among ids y) ((bytes_eq-Decides y y).1 refl)

    later : (y : List ℕ) → is_among ids y ≡ true → (bytes_eq x y || is_among ids y) ≡ true
    later y e = ap (λ (t : Bool). bytes_eq x y || t) e ∙ or_right (bytes_eq x y) true refl

push_cases : (ids : Ids) (id x : List ℕ) → is_among (ids ++ id ∷ []) x ≡ true → (is_among ids x ≡ true) ⊎ (id ≡ x)
push_cases ids id x e = at (is_among ids x) (bytes_eq id x) refl (sym (among_push ids id x) ∙ e)
  where
    at : (s t : Bool) → bytes_eq id x ≡ t → (s || t) ≡ true → (s ≡ true) ⊎ (id ≡ x)
    at true t is f = inl refl
    at false true is f = inr ((bytes_eq-Decides id x).0 is)
    at false false is f = absurd cc

-- ---- some commits, one after another

farther : (graph : List Node) (tips : Ids) (low high : ℕ) (id : List ℕ) → ((j : ℕ) → j < low → j < high) → IsNew graph tips low id
    → IsNew graph tips high id
farther graph tips low high id up n = record { reached = n.reached; place = n.place; before = up n.place n.before; there = n.there }

each_lists : (ex : List ℕ → Bool) (graph : List Node) (n bound : ℕ)
    → ((p : List ℕ) (j : ℕ) → j < bound → place_from 0 graph p ≡ Some j → (ids : Ids) → IsListed ex graph ids → Lists ex graph ids (p ∷ []) bound (met ex graph n ids p))
    → (ps : Ids) → StandBefore graph bound ps → (ids : Ids) → IsListed ex graph ids → Lists ex graph ids ps bound (fold (met ex graph n) ids ps)
each_lists ex graph n bound by [] b ids h =
    record { listed = h; new = λ id e. inl e; passed = λ tip c. none_in tip c; keeps = record { keeps = λ id e. e } }
each_lists ex graph n bound by (p ∷ ps) b ids h =
    at (met ex graph n ids p) (fold (met ex graph n) (met ex graph n ids p) ps) (by p b.0.0 b.0.1 b.0.2 ids h) (each_lists ex graph n bound by ps b.1 (met ex graph n ids p))
  where
    at : (mid last : Ids) → Lists ex graph ids (p ∷ []) bound mid → (IsListed ex graph mid → Lists ex graph mid ps bound last)
        → Lists ex graph ids (p ∷ ps) bound last
    at mid last one rest = record {
      listed = all.listed;
      new = λ id e. new id (all.new id e);
      passed = λ tip c. passed tip (in_cases p ps tip c);
      keeps = keeps_on one.keeps all.keeps;
    }
      where
        all : Lists ex graph mid ps bound last
        all = rest one.listed

        first : (id : List ℕ) → (is_among ids id ≡ true) ⊎ IsNew graph (p ∷ []) bound id → (is_among ids id ≡ true) ⊎ IsNew graph (p ∷ ps) bound id
        first id (inl e) = inl e
        first id (inr w) =
            inr (record { reached = tip (in_cases p [] w.reached.tip w.reached.among); place = w.place; before = w.before; there = w.there })
          where
            tip : (p ≡ w.reached.tip) ⊎ Contains [] w.reached.tip → Reached graph (p ∷ ps) id
            tip (inl same) = record { tip = w.reached.tip; among = (0, omega arith, same); above = w.reached.above }
            tip (inr c) = none_in w.reached.tip c

        new : (id : List ℕ) → (is_among mid id ≡ true) ⊎ IsNew graph ps bound id → (is_among ids id ≡ true) ⊎ IsNew graph (p ∷ ps) bound id
        new id (inl e) = first id (one.new id e)
        new id (inr w) =
            inr (record { reached = record { tip = w.reached.tip; among = in_later p ps w.reached.tip w.reached.among; above = w.reached.above }; place = w.place; before = w.before; there = w.there })

        passed : (tip : List ℕ) → (p ≡ tip) ⊎ Contains ps tip → is_passed ex last tip ≡ true
        passed tip (inl same) = passed_more ex mid last tip all.keeps (one.passed tip (0, omega arith, same))
        passed tip (inr c) = all.passed tip c

-- ---- one commit

parent_step : (graph : List Node) (id : List ℕ) (k : ℕ) (parent : List ℕ) → place_from 0 graph id ≡ Some k → Contains (parents_of graph id) parent
    → Ancestors graph id parent
parent_step graph id k parent e c =
    let at = id_placed graph id k e in
    let node = get_or graph k nobody in
    parent_of node parent (k, at.0, get_or_default graph k node nobody at.0) (subst (Ancestors graph id) (sym at.1) itself) (subst (λ (ps : Ids). Contains ps parent) (parents_are graph id k e) c)

met_lists : (ex : List ℕ → Bool) (graph : List Node) → ParentsFirst graph → (n : ℕ) (id : List ℕ) (k : ℕ) → k < n → place_from 0 graph id ≡ Some k
    → (ids : Ids) → IsListed ex graph ids
    → Lists ex graph ids (id ∷ []) (k + 1) (met ex graph n ids id)
met_lists ex graph first zero id k l e ids h = absurd (omega arith)
met_lists ex graph first (suc n) id k l e ids h =
    at (fold (met ex graph n) ids (parents_of graph id)) (each_lists ex graph n k (λ p j below there ids h. nearer p j below (met_lists ex graph first n p j (omega arith) there ids h)) (parents_of graph id) (parents_before graph id k first e) ids h) (is_passed ex ids id) refl
  where
    nearer : (p : List ℕ) (j : ℕ) → j < k → {ids more : Ids} → Lists ex graph ids (p ∷ []) (j + 1) more → Lists ex graph ids (p ∷ []) k more
    nearer p j below {ids} {more} one = record { listed = one.listed; new = λ x f. up x (one.new x f); passed = one.passed; keeps = one.keeps }
      where
        up : (x : List ℕ) → (is_among ids x ≡ true) ⊎ IsNew graph (p ∷ []) (j + 1) x → (is_among ids x ≡ true) ⊎ IsNew graph (p ∷ []) k x
        up x (inl f) = inl f
        up x (inr w) = inr (farther graph (p ∷ []) (j + 1) k x (λ i m. omega arith) w)

    only : (t : Ids) (tip : List ℕ) → (id ≡ tip) ⊎ Contains [] tip → is_passed ex t id ≡ true → is_passed ex t tip ≡ true
    only t tip (inl same) f = ap (is_passed ex t) (sym same) ∙ f
    only t tip (inr c) f = none_in tip c

    at : (above : Ids) → Lists ex graph ids (parents_of graph id) k above → (t : Bool) → is_passed ex ids id ≡ t
        → Lists ex graph ids (id ∷ []) (k + 1) (cond t ids (above ++ id ∷ []))
    at above up true old =
        record { listed = h; new = λ x f. inl f; passed = λ tip c. only ids tip (in_cases id [] tip c) old; keeps = record { keeps = λ x f. f } }
    at above up false new = record {
      listed = record {
        kept = λ x f. kept x (push_cases above id x f);
        closed = λ x parent f c. passed_more ex above (above ++ id ∷ []) parent (keeps_more above id) (closed x parent c (push_cases above id x f));
        order = order_more graph above id up.listed.order fresh (λ x f c. loose x f c) (λ c. alone c);
      };
      new = λ x f. come x (push_cases above id x f);
      passed = λ tip c. only (above ++ id ∷ []) tip (in_cases id [] tip c) (passed_among ex (above ++ id ∷ []) id (among_last above id));
      keeps = keeps_on up.keeps (keeps_more above id);
    }
      where
        parts : (ex id ≡ false) × (is_among ids id ≡ false)
        parts = or_parts (ex id) (is_among ids id) new

        twice : (is_among ids id ≡ true) ⊎ IsNew graph (parents_of graph id) k id → ⊥
        twice (inl f) = let off = parts.1 in cc
        twice (inr w) = let same : Some w.place ≡ Some k = sym w.there ∙ e in let is : w.place ≡ k = cc in omega (arith, w.before, is)

        fresh : is_among above id ≡ false
        fresh = by (is_among above id) refl
          where
            by : (t : Bool) → is_among above id ≡ t → is_among above id ≡ false
            by true f = absurd (twice (up.new id f))
            by false f = f

        kept : (x : List ℕ) → (is_among above x ≡ true) ⊎ (id ≡ x) → ex x ≡ false
        kept x (inl f) = up.listed.kept x f
        kept x (inr same) = ap ex (sym same) ∙ parts.0

        closed : (x parent : List ℕ) → Contains (parents_of graph x) parent → (is_among above x ≡ true) ⊎ (id ≡ x) → is_passed ex above parent ≡ true
        closed x parent c (inl f) = up.listed.closed x parent f c
        closed x parent c (inr same) = up.passed parent (subst (λ (i : List ℕ). Contains (parents_of graph i) parent) (sym same) c)

        loose : (x : List ℕ) → is_among above x ≡ true → Contains (parents_of graph x) id → ⊥
        loose x f c =
            let on = up.listed.closed x id f c in
            let off = or_from (ex id) (is_among above id) parts.0 fresh in
            cc

        alone : Contains (parents_of graph id) id → ⊥
        alone c = let on = up.passed id c in let off = or_from (ex id) (is_among above id) parts.0 fresh in cc

        come : (x : List ℕ) → (is_among above x ≡ true) ⊎ (id ≡ x) → (is_among ids x ≡ true) ⊎ IsNew graph (id ∷ []) (k + 1) x
        come x (inr same) = inr (record {
          reached = record { tip = id; among = (0, omega arith, refl); above = subst (Ancestors graph id) same itself };
          place = k;
          before = omega arith;
          there = ap (place_from 0 graph) (sym same) ∙ e;
        })
        come x (inl f) = further (up.new x f)
          where
            further : (is_among ids x ≡ true) ⊎ IsNew graph (parents_of graph id) k x → (is_among ids x ≡ true) ⊎ IsNew graph (id ∷ []) (k + 1) x
            further (inl g) = inl g
            further (inr w) = inr (record {
              reached =
                  record { tip = id; among = (0, omega arith, refl); above = ancestors_of_ancestor graph id w.reached.tip x (parent_step graph id k w.reached.tip e w.reached.among) w.reached.above };
              place = w.place;
              before = omega (arith, w.before);
              there = w.there;
            })

-- ---- a whole walk

tips_placed : (graph : List Node) (tips : Ids) → first_missing graph tips ≡ None → StandBefore graph (length graph) tips
tips_placed graph [] e = tt
tips_placed graph (tip ∷ tips) e =
    let m = missing_first graph tip tips e in
    let p = placed_tip graph tip m.0 in
    ((p.0, (id_placed graph tip p.0 p.1).0, p.1), tips_placed graph tips m.1)

walk_lists : (ex : List ℕ → Bool) (graph : List Node) (tips : Ids) → ParentsFirst graph → first_missing graph tips ≡ None
    → Lists ex graph [] tips (length graph) (walk ex graph tips)
walk_lists ex graph tips first there =
    each_lists ex graph (length graph) (length graph) (λ p j l at ids h. wide p j l (met_lists ex graph first (length graph) p j l at ids h)) tips (tips_placed graph tips there) []
    (record { kept = λ id e. absurd cc; closed = λ id parent e c. absurd cc; order = tt })
  where
    wide : (p : List ℕ) (j : ℕ) → j < length graph → {ids more : Ids} → Lists ex graph ids (p ∷ []) (j + 1) more
        → Lists ex graph ids (p ∷ []) (length graph) more
    wide p j l {ids} {more} one = record { listed = one.listed; new = λ x f. up x (one.new x f); passed = one.passed; keeps = one.keeps }
      where
        up : (x : List ℕ) → (is_among ids x ≡ true) ⊎ IsNew graph (p ∷ []) (j + 1) x → (is_among ids x ≡ true) ⊎ IsNew graph (p ∷ []) (length graph) x
        up x (inl f) = inl f
        up x (inr w) = inr (farther graph (p ∷ []) (j + 1) (length graph) x (λ i m. omega arith) w)

-- the parents of what is excluded are excluded
record IsClosed (ex : List ℕ → Bool) (graph : List Node) : Type 0 where
  closed : (id parent : List ℕ) → ex id ≡ true → Contains (parents_of graph id) parent → ex parent ≡ true

passed_not : (ex : List ℕ → Bool) (ids : Ids) (id : List ℕ) → is_passed ex ids id ≡ true → ex id ≡ false → is_among ids id ≡ true
passed_not ex ids id e off = ap (λ (t : Bool). t || is_among ids id) (sym off) ∙ e

all_reached : (ex : List ℕ → Bool) (graph : List Node) (tips : Ids) → ParentsFirst graph → IsClosed ex graph
    → Lists ex graph [] tips (length graph) (walk ex graph tips)
    → (tip id : List ℕ) → Contains tips tip → Ancestors graph tip id → ex id ≡ false → is_among (walk ex graph tips) id ≡ true
all_reached ex graph tips first shut all tip _ c itself off = passed_not ex (walk ex graph tips) tip (all.passed tip c) off
all_reached ex graph tips first shut all tip _ c (parent_of node id inside above parent) off =
    at (all_reached ex graph tips first shut all tip node.id c above) (ex node.id) refl
  where
    place : place_from 0 graph node.id ≡ Some inside.0
    place =
        ap (λ (n : Node). place_from 0 graph n.id) (sym (get_or_default graph inside.0 nobody node inside.1 ∙ inside.2))
        ∙ place_at graph inside.0 first inside.1

    among : Contains (parents_of graph node.id) id
    among =
        subst (λ (ps : Ids). Contains ps id) (sym (parents_are graph node.id inside.0 place ∙ ap (λ (n : Node). n.parents) (get_or_default graph inside.0 nobody node inside.1 ∙ inside.2))) parent

    at : (ex node.id ≡ false → is_among (walk ex graph tips) node.id ≡ true) → (t : Bool) → ex node.id ≡ t → is_among (walk ex graph tips) id ≡ true
    at rest true on = let f = shut.closed node.id id on among in absurd cc
    at rest false is = passed_not ex (walk ex graph tips) id (all.listed.closed node.id id (rest is) among) off

from_new : (graph : List Node) (tips : Ids) (id : List ℕ) → (false ≡ true) ⊎ IsNew graph tips (length graph) id → Reached graph tips id
from_new graph tips id (inl e) = absurd cc
from_new graph tips id (inr w) = w.reached

two_walks : (graph : List Node) (excluded tips olds : Ids) → ParentsFirst graph → Lists (λ other. false) graph [] excluded (length graph) olds
    → ((id : List ℕ) → Reached graph excluded id → is_among olds id ≡ true) → Lists (is_among olds) graph [] tips (length graph) (walk (is_among olds) graph tips) → IsRange graph excluded tips (walk (is_among olds) graph tips)
two_walks graph excluded tips olds first before in_old all = record {
  each =
      λ id. (λ e. (from_new graph tips id (all.new id e), λ r. clash id (all.listed.kept id e) (in_old id r)), λ w. all_reached (is_among olds) graph tips first shut all w.0.tip id w.0.among w.0.above (not_old id w.1));
  order = all.listed.order;
}
  where
    clash : (id : List ℕ) → is_among olds id ≡ false → is_among olds id ≡ true → ⊥
    clash id off on = cc

    shut : IsClosed (is_among olds) graph
    shut = record { closed = λ id parent e c. before.listed.closed id parent e c }

    not_old : (id : List ℕ) → (Reached graph excluded id → ⊥) → is_among olds id ≡ false
    not_old id never = at (is_among olds id) refl
      where
        at : (t : Bool) → is_among olds id ≡ t → is_among olds id ≡ false
        at true e = absurd (never (from_new graph excluded id (before.new id e)))
        at false e = e

none_closed : (graph : List Node) → IsClosed (λ other. false) graph
none_closed graph = record { closed = λ id parent e c. absurd cc }

pub range_lists : (graph : List Node) (excluded tips ids : Ids) → ParentsFirst graph → first_missing graph excluded ≡ None
    → first_missing graph tips ≡ None → ids ≡ range graph excluded tips → IsRange graph excluded tips ids
range_lists graph excluded tips ids first there_excluded there_tips is =
    let olds : Ids = walk (λ other. false) graph excluded in
    let before = walk_lists (λ other. false) graph excluded first there_excluded in
    let in_old : (id : List ℕ) → Reached graph excluded id → is_among olds id ≡ true = (λ id r. all_reached (λ other. false) graph excluded first (none_closed graph) before r.tip id r.among r.above refl) in
    subst (IsRange graph excluded tips) (sym is) (two_walks graph excluded tips olds first before in_old (walk_lists (is_among olds) graph tips first there_tips))
