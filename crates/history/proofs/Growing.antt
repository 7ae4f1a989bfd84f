-- What a walk leaves of a graph: all that was there, and the commit that it was for.
use Rattle.std.proofs.Common.{◌≡◌, ℕ, zero, suc, ◌-◌, ◌<◌, Bool, true, false, ◌||◌, List, [], ◌∷◌, ◌++◌, Result, Ok, Err, refl, sym, ap, subst, ◌∙◌, arith}
use Rattle.std.specs.Str.{bytes_eq}
use Rattle.std.proofs.lemmas.Bool.{or_right}
use Rattle.std.proofs.lemmas.Slice.Eq.{bytes_eq-Decides}
use Rattle.merge_base.specs.declared.graph.Node.{Node}
use Rattle.merge_base.specs.Graphs.{has}
use Rattle.seq_base.specs.Words.{Id}
use Rattle.seq_base.specs.World.{World}
use Rattle.seq_outside.specs.Halts.{◌>>=◌}
use Rattle.seq_outside.specs.declared.lack.Lack.{Lack}
use Rattle.history.specs.Loads.{each, entered, joined, walked}

abbrev pub Walk : Type 0
Walk = List Node → Id → Result (List Node) Lack

-- ---- the definitions, opened

pub each-nil : (walk : Walk) (graph : List Node) → each walk graph [] ≡ Ok graph
unfolding each
each-nil walk graph = refl

pub each-cons : (walk : Walk) (graph : List Node) (id : Id) (ids : List Id)
    → each walk graph (id ∷ ids) ≡ (walk graph id >>= λ more. each walk more ids)
unfolding each
each-cons walk graph id ids = refl

pub joined-new : (graph : List Node) (node : Node) → has graph node.id ≡ false → joined graph node ≡ Ok (graph ++ node ∷ [])
unfolding joined
joined-new graph node e = rw e refl

joined_old : (graph : List Node) (node : Node) (more : List Node) → has graph node.id ≡ true → joined graph node ≡ Ok more → ⊥
unfolding joined
joined_old graph node more old e = let f = rw old at e in cc

pub walked_there : (w : World) (room : ℕ) (graph : List Node) (id : Id) → has graph id ≡ true → walked w room graph id ≡ Ok graph
unfolding walked
walked_there w zero graph id e = rw e refl
walked_there w (suc room) graph id e = rw e refl

pub walked_full : (w : World) (graph : List Node) (id : Id) → has graph id ≡ false
    → walked w 0 graph id ≡ (entered w 0 graph id >>= λ node. joined graph node)
unfolding walked
walked_full w graph id e = rw e refl

pub walked_new : (w : World) (room : ℕ) (graph : List Node) (id : Id) → 0 < room → has graph id ≡ false
    → walked w room graph id ≡ (entered w room graph id >>= λ node. each (walked w (room - 1)) graph node.parents >>= λ more. joined more node)
unfolding walked
walked_new w zero graph id l e = absurd (omega arith)
walked_new w (suc room) graph id l e =
    rw e (ap (λ (k : ℕ). entered w (suc room) graph id >>= λ node. each (walked w k) graph node.parents >>= λ more. joined more node) (omega arith))

pub walked_more : (w : World) (room : ℕ) (graph : List Node) (id : Id) → has graph id ≡ false
    → walked w (suc room) graph id ≡ (entered w (suc room) graph id >>= λ node. each (walked w room) graph node.parents >>= λ more. joined more node)
unfolding walked
walked_more w room graph id e = rw e refl

-- ---- all that was there stays

pub record Grows (graph more : List Node) : Type 0 where
  pub keeps : (id : Id) → has graph id ≡ true → has more id ≡ true

pub grows_itself : (graph : List Node) → Grows graph graph
grows_itself graph = record { keeps = λ id e. e }

pub grows_on : {a b c : List Node} → Grows a b → Grows b c → Grows a c
grows_on f g = record { keeps = λ id e. g.keeps id (f.keeps id e) }

has_before : (graph : List Node) (node : Node) (id : Id) → has graph id ≡ true → has (graph ++ node ∷ []) id ≡ true
has_before [] node id e = absurd cc
has_before (other ∷ graph) node id e = at (has_before graph node id) (bytes_eq other.id id) e
  where
    at : (has graph id ≡ true → has (graph ++ node ∷ []) id ≡ true) → (t : Bool) → (t || has graph id) ≡ true
        → (t || has (graph ++ node ∷ []) id) ≡ true
    at rest true e = refl
    at rest false e = rest e

has_last : (graph : List Node) (node : Node) → has (graph ++ node ∷ []) node.id ≡ true
has_last [] node = rw ((bytes_eq-Decides node.id node.id).1 refl) refl
has_last (other ∷ graph) node = rw (has_last graph node) (or_right (bytes_eq other.id node.id) true refl)

pub record IsJoined (graph : List Node) (node : Node) (more : List Node) : Type 0 where
  pub new : has graph node.id ≡ false
  pub is : more ≡ graph ++ node ∷ []
  pub grows : Grows graph more
  pub there : has more node.id ≡ true

pub joined_is : (graph : List Node) (node : Node) (more : List Node) → joined graph node ≡ Ok more → IsJoined graph node more
joined_is graph node more e = at (has graph node.id) refl
  where
    whole : has graph node.id ≡ false → graph ++ node ∷ [] ≡ more
    whole new = let f = joined-new graph node new in cc

    at : (t : Bool) → has graph node.id ≡ t → IsJoined graph node more
    at false new = record {
      new = new;
      is = sym (whole new);
      grows = record { keeps = λ id e. subst (λ (g : List Node). has g id ≡ true) (whole new) (has_before graph node id e) };
      there = subst (λ (g : List Node). has g node.id ≡ true) (whole new) (has_last graph node);
    }
    at true old = absurd (joined_old graph node more old e)

pub each_grows : (walk : Walk) → ((graph : List Node) (id : Id) (more : List Node) → walk graph id ≡ Ok more → Grows graph more)
    → (ids : List Id) (graph more : List Node) → each walk graph ids ≡ Ok more → Grows graph more
each_grows walk by [] graph more e = let same : graph ≡ more = (let f = each-nil walk graph in cc) in subst (Grows graph) same (grows_itself graph)
each_grows walk by (id ∷ ids) graph more e =
    at (λ next. each_grows walk by ids next more) (walk graph id) refl (sym (each-cons walk graph id ids) ∙ e)
  where
    at : ((next : List Node) → each walk next ids ≡ Ok more → Grows next more) → (r : Result (List Node) Lack) → walk graph id ≡ r
        → (r >>= λ next. each walk next ids) ≡ Ok more → Grows graph more
    at rest (Ok next) is f = grows_on (by graph id next is) (rest next f)
    at rest (Err why) is f = absurd cc

-- a step that went well, taken apart
pub record Binds {A : Type 0} (r : Result A Lack) (next : A → Result (List Node) Lack) (more : List Node) : Type 0 where
  pub value : A
  pub is : r ≡ Ok value
  pub rest : next value ≡ Ok more

pub bind_ok : {A : Type 0} (r : Result A Lack) (next : A → Result (List Node) Lack) (more : List Node) → (r >>= next) ≡ Ok more → Binds r next more
bind_ok (Ok x) next more e = record { value = x; is = refl; rest = e }
bind_ok (Err why) next more e = absurd cc

pub walked_grows : (w : World) (room : ℕ) (graph : List Node) (id : Id) (more : List Node) → walked w room graph id ≡ Ok more → Grows graph more
walked_grows w zero graph id more e = at (has graph id) refl
  where
    at : (t : Bool) → has graph id ≡ t → Grows graph more
    at true there = let same : graph ≡ more = (let f = walked_there w 0 graph id there in cc) in subst (Grows graph) same (grows_itself graph)
    at false new =
        let b = bind_ok (entered w 0 graph id) (λ node. joined graph node) more (sym (walked_full w graph id new) ∙ e) in
        (joined_is graph b.value more b.rest).grows
walked_grows w (suc room) graph id more e = at (walked_grows w room) (has graph id) refl
  where
    at : ((graph : List Node) (id : Id) (more : List Node) → walked w room graph id ≡ Ok more → Grows graph more) → (t : Bool) → has graph id ≡ t
        → Grows graph more
    at rest true there =
        let same : graph ≡ more = (let f = walked_there w (suc room) graph id there in cc) in subst (Grows graph) same (grows_itself graph)
    at rest false new =
        let f = walked_more w room graph id new in
        let b = bind_ok (entered w (suc room) graph id) (λ node. each (walked w room) graph node.parents >>= λ next. joined next node) more (sym f ∙ e) in
        let d = bind_ok (each (walked w room) graph b.value.parents) (λ next. joined next b.value) more b.rest in
        grows_on (each_grows (walked w room) rest b.value.parents graph d.value d.is) (joined_is d.value b.value more d.rest).grows
