-- A walk over a graph, commit by commit.
use Rattle.std.proofs.Common.{◌≡◌, ◌≢◌, ℕ, zero, suc, ◌+◌, ◌<◌, ◌≤◌, Bool, true, false, cond, not, ◌||◌, eqb, List, [], ◌∷◌, ◌++◌, length, get_or, reverse, set, replicate, fold, count_by, Option, Some, None, Contains, is_some, refl, sym, ap, subst, ◌∙◌, arith, get_or-set_same, get_or-set_other, length-set}
use Rattle.std.specs.Str.{bytes_eq}
use Rattle.std.proofs.lemmas.Bool.{or_right}
use Rattle.std.proofs.lemmas.Bool.Decides.{Decides-eqb}
use Rattle.std.proofs.lemmas.List.{length-replicate, reverse-append}
use Rattle.std.proofs.lemmas.List.Sums.{sum_by-set}
use Rattle.std.proofs.lemmas.Slice.Eq.{bytes_eq-Decides}
use Rattle.merge_base.specs.declared.graph.Node.{Node}
use Rattle.merge_base.specs.Graphs.{ParentsFirst, first_missing, has, is_among, parents_in, parents_of, place_from}
use Rattle.merge_base.specs.Marks.{is_marked, mark, nobody, parents_at}
use Rattle.merge_base.specs.Ranges.{is_passed, met, range, walk}
use Rattle.merge_base.proofs.Marking.{id_placed, parent_before}
use Rattle.merge_base.proofs.Places.{place_has, placed}
use Rattle.history.specs.Walks.{AreInOrder, AreMarked, HasMet, Walks, first_unmarked, is_noted, is_noted_at, met_then, noted}

abbrev pub Ids : Type 0
Ids = List (List ℕ)

pub or_false : (t : Bool) → (t || false) ≡ t
or_false true = refl
or_false false = refl

-- ---- parents have places before their commit

abbrev pub StandBefore : List Node → ℕ → Ids → Type 0
StandBefore graph k [] = Unit {0}
StandBefore graph k (id ∷ ids) = ((j : ℕ) × (j < k) × (place_from 0 graph id ≡ Some j)) × StandBefore graph k ids

before_each : (graph : List Node) (k : ℕ) (ids : Ids) → ((id : List ℕ) → Contains ids id → (j : ℕ) × (j < k) × (place_from 0 graph id ≡ Some j))
    → StandBefore graph k ids
before_each graph k [] by = tt
before_each graph k (id ∷ ids) by = (by id (0, omega arith, refl), before_each graph k ids (λ other c. later other c))
  where
    later : (other : List ℕ) → Contains ids other → (j : ℕ) × (j < k) × (place_from 0 graph other ≡ Some j)
    later other c = let l : c.0 < length ids = c.1 in by other (suc c.0, omega arith, c.2)

pub parents_are : (graph : List Node) (id : List ℕ) (k : ℕ) → place_from 0 graph id ≡ Some k → parents_of graph id ≡ parents_at graph k
parents_are graph id k e =
    let p = placed 0 graph id k e in
    let is : p.at ≡ k = omega (arith, p.is) in
    ap parents_in (p.found nobody) ∙ ap (parents_at graph) is

pub parents_before : (graph : List Node) (id : List ℕ) (k : ℕ) → ParentsFirst graph → place_from 0 graph id ≡ Some k
    → StandBefore graph k (parents_of graph id)
parents_before graph id k first e =
    subst (StandBefore graph k) (sym (parents_are graph id k e)) (before_each graph k (parents_at graph k) (λ other c. parent_before graph k other first (id_placed graph id k e).0 c))

-- ---- how deep a walk may go makes no difference

fold_same : (f g : Ids → List ℕ → Ids) (graph : List Node) (k : ℕ) (ps : Ids)
    → ((p : List ℕ) (j : ℕ) → j < k → place_from 0 graph p ≡ Some j → (ids : Ids) → f ids p ≡ g ids p) → StandBefore graph k ps → (ids : Ids) → fold f ids ps ≡ fold g ids ps
fold_same f g graph k [] by b ids = refl
fold_same f g graph k (p ∷ ps) by b ids = ap (λ (r : Ids). fold f r ps) (by p b.0.0 b.0.1 b.0.2 ids) ∙ fold_same f g graph k ps by b.1 (g ids p)

deep : (ex : List ℕ → Bool) (graph : List Node) → ParentsFirst graph → (d e : ℕ) (id : List ℕ) (k : ℕ) → k < d → k < e
    → place_from 0 graph id ≡ Some k → (ids : Ids)
    → met ex graph d ids id ≡ met ex graph e ids id
deep ex graph first zero e id k l m is ids = absurd (omega arith)
deep ex graph first (suc d) zero id k l m is ids = absurd (omega arith)
deep ex graph first (suc d) (suc e) id k l m is ids =
    ap (λ (r : Ids). cond (is_passed ex ids id) ids (r ++ id ∷ []))
    (fold_same (met ex graph d) (met ex graph e) graph k (parents_of graph id) (λ p j below at ids. deep ex graph first d e p j (omega arith) (omega arith) at ids) (parents_before graph id k first is) ids)

met_step : (ex : List ℕ → Bool) (graph : List Node) → ParentsFirst graph → (n : ℕ) (id : List ℕ) (k : ℕ) → k < n → place_from 0 graph id ≡ Some k
    → (ids : Ids)
    → met ex graph n ids id ≡ cond (is_passed ex ids id) ids (fold (met ex graph n) ids (parents_of graph id) ++ id ∷ [])
met_step ex graph first zero id k l is ids = absurd (omega arith)
met_step ex graph first (suc d) id k l is ids =
    ap (λ (r : Ids). cond (is_passed ex ids id) ids (r ++ id ∷ []))
    (fold_same (met ex graph d) (met ex graph (suc d)) graph k (parents_of graph id) (λ p j below at ids. deep ex graph first d (suc d) p j (omega arith) (omega arith) at ids) (parents_before graph id k first is) ids)

-- a commit that is met is listed behind what its parents come from
met_new : (ex : List ℕ → Bool) (graph : List Node) → ParentsFirst graph → (id : List ℕ) (k : ℕ) → place_from 0 graph id ≡ Some k → (ids : Ids)
    → is_passed ex ids id ≡ false
    → met ex graph (length graph) ids id ≡ fold (met ex graph (length graph)) ids (parents_of graph id) ++ id ∷ []
met_new ex graph first id k is ids new =
    met_step ex graph first (length graph) id k (id_placed graph id k is).0 is ids ∙ ap (λ (t : Bool). cond t ids (fold (met ex graph (length graph)) ids (parents_of graph id) ++ id ∷ [])) new

pub met_passed : (ex : List ℕ → Bool) (graph : List Node) (n : ℕ) (ids : Ids) (id : List ℕ) → is_passed ex ids id ≡ true → met ex graph n ids id ≡ ids
met_passed ex graph zero ids id e = refl
met_passed ex graph (suc n) ids id e = ap (λ (t : Bool). cond t ids (fold (met ex graph n) ids (parents_of graph id) ++ id ∷ [])) e

-- ---- what was listed stays

pub record Keeps (ids more : Ids) : Type 0 where
  pub keeps : (id : List ℕ) → is_among ids id ≡ true → is_among more id ≡ true

pub among_push : (ids : Ids) (x id : List ℕ) → is_among (ids ++ x ∷ []) id ≡ (is_among ids id || bytes_eq x id)
among_push [] x id = or_false (bytes_eq x id)
among_push (y ∷ ids) x id = at (among_push ids x id) (bytes_eq y id)
  where
    at : is_among (ids ++ x ∷ []) id ≡ (is_among ids id || bytes_eq x id) → (t : Bool)
        → (t || is_among (ids ++ x ∷ []) id) ≡ ((t || is_among ids id) || bytes_eq x id)
    at rest true = refl
    at rest false = rest

pub among_last : (ids : Ids) (x : List ℕ) → is_among (ids ++ x ∷ []) x ≡ true
among_last ids x = among_push ids x x ∙ ap (λ (t : Bool). is_among ids x || t) ((bytes_eq-Decides x x).1 refl) ∙ or_right (is_among ids x) true refl

pub keeps_more : (ids : Ids) (x : List ℕ) → Keeps ids (ids ++ x ∷ [])
keeps_more ids x = record { keeps = λ id e. among_push ids x id ∙ ap (λ (t : Bool). t || bytes_eq x id) e }

pub keeps_on : {a b c : Ids} → Keeps a b → Keeps b c → Keeps a c
keeps_on f g = record { keeps = λ id e. g.keeps id (f.keeps id e) }

pub fold_keeps : (f : Ids → List ℕ → Ids) → ((ids : Ids) (id : List ℕ) → Keeps ids (f ids id)) → (ps ids : Ids) → Keeps ids (fold f ids ps)
fold_keeps f by [] ids = record { keeps = λ id e. e }
fold_keeps f by (p ∷ ps) ids = keeps_on (by ids p) (fold_keeps f by ps (f ids p))

pub met_keeps : (ex : List ℕ → Bool) (graph : List Node) (n : ℕ) (ids : Ids) (id : List ℕ) → Keeps ids (met ex graph n ids id)
met_keeps ex graph zero ids id = record { keeps = λ id e. e }
met_keeps ex graph (suc n) ids id = at (fold_keeps (met ex graph n) (met_keeps ex graph n) (parents_of graph id) ids) (is_passed ex ids id)
  where
    at : Keeps ids (fold (met ex graph n) ids (parents_of graph id)) → (t : Bool)
        → Keeps ids (cond t ids (fold (met ex graph n) ids (parents_of graph id) ++ id ∷ []))
    at rest true = record { keeps = λ id e. e }
    at rest false = keeps_on rest (keeps_more (fold (met ex graph n) ids (parents_of graph id)) id)

pub passed_more : (ex : List ℕ → Bool) (ids more : Ids) (id : List ℕ) → Keeps ids more → is_passed ex ids id ≡ true → is_passed ex more id ≡ true
passed_more ex ids more id k e = at (ex id) e
  where
    at : (t : Bool) → (t || is_among ids id) ≡ true → (t || is_among more id) ≡ true
    at true e = refl
    at false e = k.keeps id e

pub passed_among : (ex : List ℕ → Bool) (ids : Ids) (id : List ℕ) → is_among ids id ≡ true → is_passed ex ids id ≡ true
passed_among ex ids id e = ap (λ (t : Bool). ex id || t) e ∙ or_right (ex id) true refl

-- ---- what the marks tell of parents

not_waiting : (graph : List Node) (k : ℕ) (waiting : Ids) → AreInOrder graph k waiting → (p : List ℕ) (j : ℕ) → place_from 0 graph p ≡ Some j → j < k
    → is_among waiting p ≡ false
not_waiting graph k [] o p j e l = refl
not_waiting graph k (id ∷ waiting) o p j e l = at (not_waiting graph (o.0 + 1) waiting o.3 p j e) (bytes_eq id p) refl
  where
    at : (j < o.0 + 1 → is_among waiting p ≡ false) → (t : Bool) → bytes_eq id p ≡ t → (t || is_among waiting p) ≡ false
    at rest false b = let from : k ≤ o.0 = o.1 in rest (omega arith)
    at rest true b =
        let same : id ≡ p = (bytes_eq-Decides id p).0 b in
        let twice : Some o.0 ≡ Some j = sym o.2 ∙ ap (place_from 0 graph) same ∙ e in
        let is : o.0 ≡ j = cc in
        let from : k ≤ o.0 = o.1 in
        absurd (omega arith)

abbrev AreTold : List Node → List Bool → (List ℕ → Bool) → Ids → Ids → Type 0
AreTold graph marks ex ids [] = Unit {0}
AreTold graph marks ex ids (p ∷ ps) = (is_noted graph marks p ≡ is_passed ex ids p) × AreTold graph marks ex ids ps

are_told : (graph : List Node) (marks : List Bool) (ex : List ℕ → Bool) (ids waiting : Ids) (k : ℕ) → AreMarked graph ex ids waiting marks
    → AreInOrder graph k waiting
    → (ps : Ids) → StandBefore graph k ps → AreTold graph marks ex ids ps
are_told graph marks ex ids waiting k m o [] b = tt
are_told graph marks ex ids waiting k m o (p ∷ ps) b =
    let none = not_waiting graph k waiting o p b.0.0 b.0.2 b.0.1 in
    (ap (is_noted_at marks) b.0.2 ∙ m.each p b.0.0 b.0.2 ∙ ap (λ (t : Bool). is_passed ex ids p || t) none ∙ or_false (is_passed ex ids p), are_told graph marks ex ids waiting k m o ps b.1)

-- all are passed over
all_passed : (graph : List Node) (marks : List Bool) (ex : List ℕ → Bool) (n : ℕ) (ids ps : Ids) → AreTold graph marks ex ids ps
    → first_unmarked graph marks ps ≡ None
    → fold (met ex graph n) ids ps ≡ ids
all_passed graph marks ex n ids [] told e = refl
all_passed graph marks ex n ids (p ∷ ps) told e = at (all_passed graph marks ex n ids ps told.1) (is_noted graph marks p) refl e
  where
    at : (first_unmarked graph marks ps ≡ None → fold (met ex graph n) ids ps ≡ ids) → (t : Bool) → is_noted graph marks p ≡ t
        → cond (not t) (Some p) (first_unmarked graph marks ps) ≡ None
        → fold (met ex graph n) (met ex graph n ids p) ps ≡ ids
    at rest true is e = ap (λ (r : Ids). fold (met ex graph n) r ps) (met_passed ex graph n ids p (sym told.0 ∙ is)) ∙ rest e
    at rest false is e = absurd cc

-- the first that is not passed over
record StopsAt (graph : List Node) (ex : List ℕ → Bool) (n k : ℕ) (ids ps : Ids) (q : List ℕ) : Type 0 where
  after : Ids
  now : fold (met ex graph n) ids ps ≡ fold (met ex graph n) (met ex graph n ids q) after
  later : (more : Ids) → Keeps ids more → is_among more q ≡ true → fold (met ex graph n) more ps ≡ fold (met ex graph n) more after
  new : is_passed ex ids q ≡ false
  place : ℕ
  before : place < k
  there : place_from 0 graph q ≡ Some place

stops_at : (graph : List Node) (marks : List Bool) (ex : List ℕ → Bool) (n k : ℕ) (ids ps : Ids) (q : List ℕ) → StandBefore graph k ps
    → AreTold graph marks ex ids ps → first_unmarked graph marks ps ≡ Some q
    → StopsAt graph ex n k ids ps q
stops_at graph marks ex n k ids [] q b told e = absurd cc
stops_at graph marks ex n k ids (p ∷ ps) q b told e = at (stops_at graph marks ex n k ids ps q b.1 told.1) (is_noted graph marks p) refl e
  where
    at : (first_unmarked graph marks ps ≡ Some q → StopsAt graph ex n k ids ps q) → (t : Bool) → is_noted graph marks p ≡ t
        → cond (not t) (Some p) (first_unmarked graph marks ps) ≡ Some q
        → StopsAt graph ex n k ids (p ∷ ps) q
    at rest true is e =
        let r = rest e in
        let old = sym told.0 ∙ is in
        record {
          after = r.after;
          now = ap (λ (x : Ids). fold (met ex graph n) x ps) (met_passed ex graph n ids p old) ∙ r.now;
          later =
              λ more g there. ap (λ (x : Ids). fold (met ex graph n) x ps) (met_passed ex graph n more p (passed_more ex ids more p g old))
              ∙ r.later more g there;
          new = r.new;
          place = r.place;
          before = r.before;
          there = r.there;
        }
    at rest false is e =
        let same : p ≡ q = cc in
        record {
          after = ps;
          now = ap (λ (i : List ℕ). fold (met ex graph n) (met ex graph n ids i) ps) same;
          later =
              λ more g there. ap (λ (x : Ids). fold (met ex graph n) x ps) (met_passed ex graph n more p (passed_among ex more p (ap (is_among more) same ∙ there)));
          new = ap (is_passed ex ids) (sym same) ∙ sym told.0 ∙ is;
          place = b.0.0;
          before = b.0.1;
          there = ap (place_from 0 graph) (sym same) ∙ b.0.2;
        }

-- ---- one more commit is listed, or waits

or_moves : (x a b c : Bool) → ((x || a) || (b || c)) ≡ ((x || (a || b)) || c)
or_moves true a b c = refl
or_moves false true b c = refl
or_moves false false b c = refl

sooner : (graph : List Node) (k : ℕ) (waiting : Ids) → AreInOrder graph k waiting → AreInOrder graph 0 waiting
sooner graph k [] o = tt
sooner graph k (id ∷ waiting) o = (o.0, omega arith, o.2, o.3)

from_place : (graph : List Node) (k : ℕ) (id : List ℕ) (waiting : Ids) → (o : AreInOrder graph k (id ∷ waiting)) → AreInOrder graph o.0 (id ∷ waiting)
from_place graph k id waiting o = (o.0, omega arith, o.2, o.3)

pub walks_lists : (graph : List Node) (old old_waiting : Ids) (old_marks : List Bool) (ids : Ids) (id : List ℕ) (waiting : Ids) (marks : List Bool)
    → ParentsFirst graph
    → Walks graph old old_waiting old_marks ids (id ∷ waiting) marks → first_unmarked graph marks (parents_of graph id) ≡ None → Walks graph old old_waiting old_marks (ids ++ id ∷ []) waiting marks
walks_lists graph old old_waiting old_marks ids id waiting marks first was none = record {
  marked = λ ex a.
      let m = was.marked ex a in
      record {
        length_is = m.length_is;
        each =
            λ q j e. m.each q j e ∙ or_moves (ex q) (is_among ids q) (bytes_eq id q) (is_among waiting q)
            ∙ ap (λ (t : Bool). (ex q || t) || is_among waiting q) (sym (among_push ids id q));
        order = sooner graph (m.order.0 + 1) waiting m.order.3;
      };
  met_is = λ ex a. ap (λ (r : Ids). met_then ex graph (r ++ id ∷ []) waiting) (sym (passed ex (was.marked ex a))) ∙ was.met_is ex a;
}
  where
    passed : (ex : List ℕ → Bool) → AreMarked graph ex ids (id ∷ waiting) marks → fold (met ex graph (length graph)) ids (parents_of graph id) ≡ ids
    passed ex m =
        let k = m.order.0 in
        all_passed graph marks ex (length graph) ids (parents_of graph id) (are_told graph marks ex ids (id ∷ waiting) k m (from_place graph 0 id waiting m.order) (parents_of graph id) (parents_before graph id k first m.order.2)) none

marked_more : (graph : List Node) (ex : List ℕ → Bool) (ids waiting : Ids) (q : List ℕ) (j : ℕ) (marks : List Bool)
    → AreMarked graph ex ids waiting marks → place_from 0 graph q ≡ Some j
    → AreInOrder graph 0 (q ∷ waiting) → AreMarked graph ex ids (q ∷ waiting) (set marks j true)
marked_more graph ex ids waiting q j marks m there order = record {
  length_is = length-set marks j true ∙ m.length_is;
  each = λ r i e. at r i e (eqb i j) refl;
  order = order;
}
  where
    within : j < length marks
    within = omega (arith, (id_placed graph q j there).0, m.length_is)

    apart : (r : List ℕ) (i : ℕ) → place_from 0 graph r ≡ Some i → i ≢ j → (t : Bool) → bytes_eq q r ≡ t → bytes_eq q r ≡ false
    apart r i e ne false b = b
    apart r i e ne true b =
        let same : q ≡ r = (bytes_eq-Decides q r).0 b in
        let twice : Some i ≡ Some j = sym e ∙ ap (place_from 0 graph) (sym same) ∙ there in
        let is : i ≡ j = cc in
        absurd (ne is)

    at : (r : List ℕ) (i : ℕ) → place_from 0 graph r ≡ Some i → (t : Bool) → eqb i j ≡ t
        → is_marked (set marks j true) i ≡ (is_passed ex ids r || (bytes_eq q r || is_among waiting r))
    at r i e true b =
        let is : i ≡ j = (Decides-eqb i j).0 b in
        let same : q ≡ r = sym (id_placed graph q j there).1 ∙ sym (ap (λ (n : ℕ). (get_or graph n nobody).id) is) ∙ (id_placed graph r i e).1 in
        let on : bytes_eq q r ≡ true = (bytes_eq-Decides q r).1 same in
        ap (is_marked (set marks j true)) is ∙ get_or-set_same marks j true false within
        ∙ sym (ap (λ (t : Bool). is_passed ex ids r || (t || is_among waiting r)) on ∙ or_right (is_passed ex ids r) true refl)
    at r i e false b =
        let ne : i ≢ j = (λ s. let o = (Decides-eqb i j).1 s in cc) in
        get_or-set_other marks j i true false ne ∙ m.each r i e ∙ ap (λ (t : Bool). is_passed ex ids r || (t || is_among waiting r)) (sym (apart r i e ne (bytes_eq q r) refl))

pub walks_waits : (graph : List Node) (old old_waiting : Ids) (old_marks : List Bool) (ids : Ids) (id : List ℕ) (waiting : Ids) (marks after : List Bool) (q : List ℕ)
    → ParentsFirst graph
    → Walks graph old old_waiting old_marks ids (id ∷ waiting) marks → first_unmarked graph marks (parents_of graph id) ≡ Some q → after ≡ noted graph marks (Some q)
    → Walks graph old old_waiting old_marks ids (q ∷ id ∷ waiting) after
walks_waits graph old old_waiting old_marks ids id waiting marks after q first was found noting = record {
  marked =
      λ ex a. subst (AreMarked graph ex ids (q ∷ id ∷ waiting)) (sym (noting ∙ ap (mark marks) (stop ex (was.marked ex a)).there)) (more ex (was.marked ex a));
  met_is = λ ex a. same ex (was.marked ex a) ∙ was.met_is ex a;
}
  where
    stop : (ex : List ℕ → Bool) → (m : AreMarked graph ex ids (id ∷ waiting) marks)
        → StopsAt graph ex (length graph) m.order.0 ids (parents_of graph id) q
    stop ex m =
        let k = m.order.0 in
        let before = parents_before graph id k first m.order.2 in
        stops_at graph marks ex (length graph) k ids (parents_of graph id) q before (are_told graph marks ex ids (id ∷ waiting) k m (from_place graph 0 id waiting m.order) (parents_of graph id) before) found

    more : (ex : List ℕ → Bool) → (m : AreMarked graph ex ids (id ∷ waiting) marks)
        → AreMarked graph ex ids (q ∷ id ∷ waiting) (set marks (stop ex m).place true)
    more ex m =
        let s = stop ex m in
        let l : s.place < m.order.0 = s.before in
        marked_more graph ex ids (id ∷ waiting) q s.place marks m s.there (s.place, omega arith, s.there, (m.order.0, omega arith, m.order.2, m.order.3))

    same : (ex : List ℕ → Bool) → (m : AreMarked graph ex ids (id ∷ waiting) marks)
        → met_then ex graph ids (q ∷ id ∷ waiting) ≡ met_then ex graph ids (id ∷ waiting)
    same ex m =
        let n = length graph in
        let s = stop ex m in
        let met_is = met_new ex graph first q s.place s.there ids s.new in
        let listed : is_among (met ex graph n ids q) q ≡ true = ap (λ (r : Ids). is_among r q) met_is ∙ among_last (fold (met ex graph n) ids (parents_of graph q)) q in
        ap (λ (r : Ids). met_then ex graph (fold (met ex graph n) r (parents_of graph id) ++ id ∷ []) waiting) (sym met_is)
        ∙ ap (λ (r : Ids). met_then ex graph (r ++ id ∷ []) waiting) (s.later (met ex graph n ids q) (met_keeps ex graph n ids q) listed ∙ sym s.now)

-- ---- a whole tip

pub placed_tip : (graph : List Node) (tip : List ℕ) → has graph tip ≡ true → (k : ℕ) × (place_from 0 graph tip ≡ Some k)
placed_tip graph tip e = at (place_from 0 graph tip) refl
  where
    at : (p : Option ℕ) → place_from 0 graph tip ≡ p → (k : ℕ) × (place_from 0 graph tip ≡ Some k)
    at (Some k) is = (k, is)
    at None is = let f = place_has 0 graph tip in let none : is_some (place_from 0 graph tip) ≡ false = ap is_some is in absurd cc

tip_told : (graph : List Node) (ex : List ℕ → Bool) (ids : Ids) (marks : List Bool) (tip : List ℕ) (k : ℕ) → place_from 0 graph tip ≡ Some k
    → AreMarked graph ex ids [] marks → is_noted graph marks tip ≡ is_passed ex ids tip
tip_told graph ex ids marks tip k e m = ap (is_noted_at marks) e ∙ m.each tip k e ∙ or_false (is_passed ex ids tip)

first_none : (t : Bool) (tip : List ℕ) → cond (not t) (Some tip) None ≡ None → t ≡ true
first_none true tip e = refl
first_none false tip e = absurd cc

first_some : (t : Bool) (tip q : List ℕ) → cond (not t) (Some tip) None ≡ Some q → (t ≡ false) × (tip ≡ q)
first_some true tip q e = absurd cc
first_some false tip q e = (refl, cc)

pub tip_passed : (graph : List Node) (ids : Ids) (tip : List ℕ) (marks : List Bool) → has graph tip ≡ true
    → first_unmarked graph marks (tip ∷ []) ≡ None → HasMet graph ids (tip ∷ []) marks ids marks
tip_passed graph ids tip marks there none =
    let p = placed_tip graph tip there in
    record {
      marked = λ ex a. a;
      met_is =
          λ ex a. sym (met_passed ex graph (length graph) ids tip (sym (tip_told graph ex ids marks tip p.0 p.1 a) ∙ first_none (is_noted graph marks tip) tip none));
    }

pub tip_met : (graph : List Node) (ids : Ids) (tip q : List ℕ) (marks after : List Bool) (more : Ids) (last : List Bool) → ParentsFirst graph
    → has graph tip ≡ true → first_unmarked graph marks (tip ∷ []) ≡ Some q
    → after ≡ noted graph marks (Some q) → Walks graph ids (q ∷ []) after more [] last → HasMet graph ids (tip ∷ []) marks more last
tip_met graph ids tip q marks after more last first there found noting walked = record {
  marked = λ ex a. walked.marked ex (begin ex a);
  met_is =
      λ ex a. walked.met_is ex (begin ex a) ∙ sym (met_new ex graph first q p.0 at ids (new ex a)) ∙ ap (met ex graph (length graph) ids) (sym same);
}
  where
    p : (k : ℕ) × (place_from 0 graph tip ≡ Some k)
    p = placed_tip graph tip there

    same : tip ≡ q
    same = (first_some (is_noted graph marks tip) tip q found).1

    at : place_from 0 graph q ≡ Some p.0
    at = ap (place_from 0 graph) (sym same) ∙ p.1

    new : (ex : List ℕ → Bool) → AreMarked graph ex ids [] marks → is_passed ex ids q ≡ false
    new ex a =
        ap (is_passed ex ids) (sym same) ∙ sym (tip_told graph ex ids marks tip p.0 p.1 a) ∙ (first_some (is_noted graph marks tip) tip q found).0

    begin : (ex : List ℕ → Bool) → AreMarked graph ex ids [] marks → AreMarked graph ex ids (q ∷ []) after
    begin ex a =
        subst (AreMarked graph ex ids (q ∷ [])) (sym (noting ∙ ap (mark marks) at)) (marked_more graph ex ids [] q p.0 marks a at (p.0, omega arith, at, tt))

-- ---- all tips, one after another

pub record HasMetTo (graph : List Node) (tips rest : Ids) (marks : List Bool) (ids : Ids) (after : List Bool) : Type 0 where
  pub marked : (ex : List ℕ → Bool) → AreMarked graph ex [] [] marks → AreMarked graph ex ids [] after
  pub met_is : (ex : List ℕ → Bool) → AreMarked graph ex [] [] marks
      → fold (met ex graph (length graph)) ids rest ≡ fold (met ex graph (length graph)) [] tips

pub one_met : (graph : List Node) (tips : Ids) (tip : List ℕ) (rest : Ids) (marks : List Bool) (ids : Ids) (now : List Bool) (more : Ids) (after : List Bool)
    → HasMetTo graph tips (tip ∷ rest) marks ids now → HasMet graph ids (tip ∷ []) now more after → HasMetTo graph tips rest marks more after
one_met graph tips tip rest marks ids now more after was h = record {
  marked = λ ex a. h.marked ex (was.marked ex a);
  met_is = λ ex a. ap (λ (r : Ids). fold (met ex graph (length graph)) r rest) (h.met_is ex (was.marked ex a)) ∙ was.met_is ex a;
}

pub all_met : (graph : List Node) (tips : Ids) (marks : List Bool) (ids : Ids) (after : List Bool) → HasMetTo graph tips [] marks ids after
    → HasMet graph [] tips marks ids after
all_met graph tips marks ids after h = record { marked = h.marked; met_is = h.met_is }

pub missing_first : (graph : List Node) (tip : List ℕ) (rest : Ids) → first_missing graph (tip ∷ rest) ≡ None
    → (has graph tip ≡ true) × (first_missing graph rest ≡ None)
missing_first graph tip rest e = at (has graph tip) e
  where
    at : (t : Bool) → cond (not t) (Some tip) (first_missing graph rest) ≡ None → (t ≡ true) × (first_missing graph rest ≡ None)
    at true e = (refl, e)
    at false e = absurd cc

-- ---- the range

blank : (n k : ℕ) → is_marked (replicate n false) k ≡ false
blank zero k = refl
blank (suc n) zero = refl
blank (suc n) (suc k) = blank n k

blank_marked : (graph : List Node) → AreMarked graph (λ other. false) [] [] (replicate (length graph) false)
blank_marked graph = record { length_is = length-replicate (length graph) false; each = λ id place e. blank (length graph) place; order = tt }

then_marked : (graph : List Node) (ids : Ids) (marks : List Bool) → AreMarked graph (λ other. false) ids [] marks
    → AreMarked graph (is_among ids) [] [] marks
then_marked graph ids marks m =
    record { length_is = m.length_is; each = λ id place e. m.each id place e ∙ sym (or_false (is_among ids id || false)); order = tt }

pub range_is : (graph : List Node) (excluded tips : Ids) (first_ids ids : Ids) (marks after : List Bool)
    → HasMet graph [] excluded (replicate (length graph) false) first_ids marks → HasMet graph [] tips marks ids after → ids ≡ range graph excluded tips
range_is graph excluded tips first_ids ids marks after a b =
    b.met_is (is_among first_ids) (then_marked graph first_ids marks (a.marked (λ other. false) (blank_marked graph)))
    ∙ ap (λ (r : Ids). walk (is_among r) graph tips) (a.met_is (λ other. false) (blank_marked graph))

-- ---- how many are not marked

count_set : (marks : List Bool) (k : ℕ) → k < length marks → is_marked marks k ≡ false → count_by not (set marks k true) + 1 ≡ count_by not marks
count_set marks k l e =
    let sum = sum_by-set (λ (m : Bool). cond {A = ℕ} (not m) 1 0) marks k true false l in
    let one : cond {A = ℕ} (not (get_or marks k false)) 1 0 ≡ 1 = ap (λ (t : Bool). cond {A = ℕ} (not t) 1 0) e in
    omega (arith, sum, one)

first_place : (graph : List Node) (marks : List Bool) (ids : Ids) (q : List ℕ) → first_unmarked graph marks ids ≡ Some q
    → is_noted graph marks q ≡ false
first_place graph marks [] q e = absurd cc
first_place graph marks (id ∷ ids) q e = at (first_place graph marks ids q) (is_noted graph marks id) refl e
  where
    at : (first_unmarked graph marks ids ≡ Some q → is_noted graph marks q ≡ false) → (t : Bool) → is_noted graph marks id ≡ t
        → cond (not t) (Some id) (first_unmarked graph marks ids) ≡ Some q → is_noted graph marks q ≡ false
    at rest true is e = rest e
    at rest false is e = let same : id ≡ q = cc in ap (is_noted graph marks) (sym same) ∙ is

pub fewer : (graph : List Node) (marks : List Bool) (ids : Ids) (q : List ℕ) → length marks ≡ length graph → first_unmarked graph marks ids ≡ Some q
    → count_by not (noted graph marks (Some q)) + 1 ≡ count_by not marks
fewer graph marks ids q len e = at (place_from 0 graph q) refl (first_place graph marks ids q e)
  where
    at : (p : Option ℕ) → place_from 0 graph q ≡ p → is_noted_at marks p ≡ false → count_by not (mark marks p) + 1 ≡ count_by not marks
    at None is e = absurd cc
    at (Some k) is e = count_set marks k (omega (arith, (id_placed graph q k is).0)) e

-- ---- as the stack has them, the last one at its end

pub stack_waits : (graph : List Node) (old old_waiting : Ids) (old_marks : List Bool) (ids : Ids) (id q : List ℕ) (stack items pushed more : Ids) (marks after : List Bool)
    → ParentsFirst graph
    → items ≡ stack ++ id ∷ [] → pushed ≡ stack ++ id ∷ [] → more ≡ pushed ++ q ∷ [] → first_unmarked graph marks (parents_of graph id) ≡ Some q → after ≡ noted graph marks (Some q)
    → Walks graph old old_waiting old_marks ids (reverse items) marks → Walks graph old old_waiting old_marks ids (reverse more) after
stack_waits graph old old_waiting old_marks ids id q stack items pushed more marks after first at push again found noting was =
    let here : reverse items ≡ id ∷ reverse stack = ap reverse at ∙ reverse-append stack (id ∷ []) in
    let then_is : reverse more ≡ q ∷ id ∷ reverse stack =
    ap reverse (again ∙ ap (λ (xs : Ids). xs ++ q ∷ []) push) ∙ reverse-append (stack ++ id ∷ []) (q ∷ []) ∙ ap (λ (xs : Ids). q ∷ xs) (reverse-append stack (id ∷ [])) in
    subst (λ (w : Ids). Walks graph old old_waiting old_marks ids w after) (sym then_is)
    (walks_waits graph old old_waiting old_marks ids id (reverse stack) marks after q first (subst (λ (w : Ids). Walks graph old old_waiting old_marks ids w marks) here was) found noting)

pub stack_lists : (graph : List Node) (old old_waiting : Ids) (old_marks : List Bool) (ids : Ids) (id : List ℕ) (stack items more : Ids) (marks after : List Bool)
    → ParentsFirst graph
    → items ≡ stack ++ id ∷ [] → more ≡ ids ++ id ∷ [] → first_unmarked graph marks (parents_of graph id) ≡ None → after ≡ marks
    → Walks graph old old_waiting old_marks ids (reverse items) marks → Walks graph old old_waiting old_marks more (reverse stack) after
stack_lists graph old old_waiting old_marks ids id stack items more marks after first at listed none same was =
    let here : reverse items ≡ id ∷ reverse stack = ap reverse at ∙ reverse-append stack (id ∷ []) in
    subst (λ (m : List Bool). Walks graph old old_waiting old_marks more (reverse stack) m) (sym same)
    (subst (λ (xs : Ids). Walks graph old old_waiting old_marks xs (reverse stack) marks) (sym listed)
    (walks_lists graph old old_waiting old_marks ids id (reverse stack) marks first (subst (λ (w : Ids). Walks graph old old_waiting old_marks ids w marks) here was) none))

pub nothing_left : (ids : Ids) → length ids < 1 → ids ≡ []
nothing_left [] l = refl
nothing_left (id ∷ ids) l = absurd (omega arith)
