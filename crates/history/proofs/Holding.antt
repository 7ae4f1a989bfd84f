-- What a walk reads is exactly the history of its tips.
use Rattle.std.proofs.Common.{◌≡◌, ◌⊎◌, inl, inr, ℕ, zero, suc, ◌-◌, ◌<◌, Bool, true, false, ◌||◌, List, [], ◌∷◌, ◌++◌, ◌+◌, length, get_or, Result, Ok, Err, Contains, refl, sym, ap, subst, ◌∙◌, arith}
use Rattle.std.proofs.lemmas.List.Elements.{Contains-append_left, Contains-push, Contains-push_cases}
use Rattle.std.proofs.lemmas.Bool.{le-leb}
use Rattle.std.specs.Prelude.{nat_le}
use Rattle.std.specs.Str.{bytes_eq}
use Rattle.std.proofs.lemmas.Slice.Eq.{bytes_eq-Decides}
use Rattle.merge_base.specs.declared.graph.Node.{Node}
use Rattle.merge_base.specs.Bases.{Ancestors, itself, parent_of}
use Rattle.merge_base.specs.Graphs.{has, limit}
use Rattle.merge_base.specs.Ranges.{Reached}
use Rattle.merge_base.proofs.Reaching.{ancestors_of_ancestor}
use Rattle.object_text.specs.declared.commit.Commit.{Commit as CommitFields}
use Rattle.objects.specs.Named.{commit_named}
use Rattle.seq_base.specs.Words.{Id}
use Rattle.seq_base.specs.World.{World}
use Rattle.seq_outside.specs.Halts.{◌>>=◌, stop_if}
use Rattle.seq_outside.specs.declared.lack.Lack.{Lack}
use Rattle.seq_outside.specs.declared.lack.Lack.TheVariants as lack
use Rattle.seq_outside.specs.declared.limit.LimitWhat.TheVariants.{Commits}
use Rattle.history.specs.Laws.{IsCommitIn, IsHistory}
use Rattle.history.specs.Loads.{each, entered, joined, loaded, node_of, walked}
use Rattle.history.proofs.Growing.{Binds, IsJoined, Walk, bind_ok, each-cons, each-nil, joined_is, walked_full, walked_more, walked_there}

-- ---- what is read

fits_ok : (t : Bool) (why : Lack) (node made : Node) → (stop_if t why >>= λ fits. Ok made) ≡ Ok node → made ≡ node
fits_ok true why node made e = absurd cc
fits_ok false why node made e = cc

entered_is : (w : World) (room : ℕ) (graph : List Node) (id : Id) (node : Node) → entered w room graph id ≡ Ok node
    → IsCommitIn w node × (node.id ≡ id)
unfolding entered
entered_is w room graph id node e = at (commit_named w id) refl e
  where
    at : (r : Result CommitFields Lack) → commit_named w id ≡ r
        → (r >>= λ commit. stop_if (nat_le room (length graph)) (lack.Limit Commits (limit + 1)) >>= λ fits. Ok (node_of id commit)) ≡ Ok node
        → IsCommitIn w node × (node.id ≡ id)
    at (Err why) is f = absurd cc
    at (Ok commit) is f =
        let made = fits_ok (nat_le room (length graph)) (lack.Limit Commits (limit + 1)) node (node_of id commit) f in
        let same : node.id ≡ id = ap (λ (n : Node). n.id) (sym made) in
        ((commit, ap (commit_named w) same ∙ is, sym made ∙ ap (λ (i : Id). node_of i commit) (sym same)), same)

full : (t : Bool) (why : Lack) (node made : Node) → t ≡ true → (stop_if t why >>= λ fits. Ok made) ≡ Ok node → ⊥
full true why node made on e = cc
full false why node made on e = cc

no_room : (w : World) (graph : List Node) (id : Id) (node : Node) → entered w 0 graph id ≡ Ok node → ⊥
unfolding entered
no_room w graph id node e = at (commit_named w id) e
  where
    at : (r : Result CommitFields Lack)
        → (r >>= λ commit. stop_if (nat_le 0 (length graph)) (lack.Limit Commits (limit + 1)) >>= λ fits. Ok (node_of id commit)) ≡ Ok node → ⊥
    at (Err why) f = cc
    at (Ok commit) f =
        full (nat_le 0 (length graph)) (lack.Limit Commits (limit + 1)) node (node_of id commit) (le-leb 0 (length graph) (omega arith)) f

-- ---- what a graph holds on the way

pub record IsSound (w : World) (graph : List Node) : Type 0 where
  pub commits : (node : Node) → Contains graph node → IsCommitIn w node
  pub closed : (node : Node) (id : Id) → Contains graph node → Contains node.parents id → has graph id ≡ true

-- What a walk from some commits leaves: they are there, what was there stays, and what is new comes from them.
pub record Adds (graph : List Node) (ids : List Id) (more : List Node) : Type 0 where
  pub there : (id : Id) → Contains ids id → has more id ≡ true
  pub keeps : (id : Id) → has graph id ≡ true → has more id ≡ true
  pub holds : (node : Node) → Contains graph node → Contains more node
  pub new : (id : Id) → has more id ≡ true → (has graph id ≡ true) ⊎ Reached more ids id

none_in : {A : Type 0} {X : Type 0} (x : X) → Contains [] x → A
none_in x c = let l : c.0 < 0 = c.1 in absurd (omega arith)

ancestors_more : (graph more : List Node) → ((node : Node) → Contains graph node → Contains more node) → (a b : Id) → Ancestors graph a b
    → Ancestors more a b
ancestors_more graph more holds a _ itself = itself
ancestors_more graph more holds a _ (parent_of node id inside above parent) =
    parent_of node id (holds node inside) (ancestors_more graph more holds a node.id above) parent

in_later : (p : Id) (ids : List Id) (id : Id) → Contains ids id → Contains (p ∷ ids) id
in_later p ids id c = let l : c.0 < length ids = c.1 in (suc c.0, omega arith, c.2)

in_cases : (p : Id) (ids : List Id) (id : Id) → Contains (p ∷ ids) id → (p ≡ id) ⊎ Contains ids id
in_cases p ids id c = at c.0 c.1 c.2
  where
    at : (i : ℕ) → i < length (p ∷ ids) → get_or (p ∷ ids) i id ≡ id → (p ≡ id) ⊎ Contains ids id
    at zero l e = inl e
    at (suc i) l e = inr (i, omega arith, e)

-- it was there before
added_none : (graph : List Node) (id : Id) → has graph id ≡ true → Adds graph (id ∷ []) graph
added_none graph id e = record {
  there = λ other c. at other (in_cases id [] other c);
  keeps = λ other f. f;
  holds = λ node c. c;
  new = λ other f. inl f;
}
  where
    at : (other : Id) → (id ≡ other) ⊎ Contains [] other → has graph other ≡ true
    at other (inl same) = ap (has graph) (sym same) ∙ e
    at other (inr c) = none_in other c

each_adds : (w : World) (walk : Walk)
    → ((graph : List Node) (id : Id) (more : List Node) → IsSound w graph → walk graph id ≡ Ok more → IsSound w more × Adds graph (id ∷ []) more)
    → (ids : List Id) (graph more : List Node) → IsSound w graph → each walk graph ids ≡ Ok more → IsSound w more × Adds graph ids more
each_adds w walk by [] graph more sound e =
    let same : graph ≡ more = (let f = each-nil walk graph in cc) in
    (subst (IsSound w) same sound, subst (Adds graph []) same (record { there = λ id c. none_in id c; keeps = λ id f. f; holds = λ node c. c; new = λ id f. inl f }))
each_adds w walk by (id ∷ ids) graph more sound e =
    at (λ next. each_adds w walk by ids next more) (bind_ok (walk graph id) (λ next. each walk next ids) more (sym (each-cons walk graph id ids) ∙ e))
  where
    at : ((next : List Node) → IsSound w next → each walk next ids ≡ Ok more → IsSound w more × Adds next ids more)
        → Binds (walk graph id) (λ next. each walk next ids) more → IsSound w more × Adds graph (id ∷ ids) more
    at rest b =
        let first = by graph id b.value sound b.is in
        let later = rest b.value first.0 b.rest in
        let one = first.1 in
        let all = later.1 in (
          later.0,
          record {
            there = λ other c. there one all other (in_cases id ids other c);
            keeps = λ other f. all.keeps other (one.keeps other f);
            holds = λ node c. all.holds node (one.holds node c);
            new = λ other f. new one all other (all.new other f);
          },
        )
      where
        there : {next : List Node} → Adds graph (id ∷ []) next → Adds next ids more → (other : Id) → (id ≡ other) ⊎ Contains ids other
            → has more other ≡ true
        there one all other (inl same) = all.keeps other (one.there other (0, omega arith, same))
        there one all other (inr c) = all.there other c

        from_one : {next : List Node} → Adds next ids more → (other : Id) → (has graph other ≡ true) ⊎ Reached next (id ∷ []) other
            → (has graph other ≡ true) ⊎ Reached more (id ∷ ids) other
        from_one all other (inl f) = inl f
        from_one {next} all other (inr r) = inr (tip (in_cases id [] r.tip r.among))
          where
            tip : (id ≡ r.tip) ⊎ Contains [] r.tip → Reached more (id ∷ ids) other
            tip (inl same) = record { tip = r.tip; among = (0, omega arith, same); above = ancestors_more next more all.holds r.tip other r.above }
            tip (inr c) = none_in r.tip c

        new : {next : List Node} → Adds graph (id ∷ []) next → Adds next ids more → (other : Id) → (has next other ≡ true) ⊎ Reached more ids other
            → (has graph other ≡ true) ⊎ Reached more (id ∷ ids) other
        new one all other (inl f) = from_one all other (one.new other f)
        new one all other (inr r) = inr (record { tip = r.tip; among = in_later id ids r.tip r.among; above = r.above })

has_cases : (graph : List Node) (node : Node) (id : Id) → has (graph ++ node ∷ []) id ≡ true → (has graph id ≡ true) ⊎ (node.id ≡ id)
has_cases [] node id e = at (bytes_eq node.id id) refl e
  where
    at : (t : Bool) → bytes_eq node.id id ≡ t → (t || false) ≡ true → (false ≡ true) ⊎ (node.id ≡ id)
    at true is e = inr ((bytes_eq-Decides node.id id).0 is)
    at false is e = absurd cc
has_cases (other ∷ graph) node id e = at (has_cases graph node id) (bytes_eq other.id id) e
  where
    at : (has (graph ++ node ∷ []) id ≡ true → (has graph id ≡ true) ⊎ (node.id ≡ id)) → (t : Bool) → (t || has (graph ++ node ∷ []) id) ≡ true
        → ((t || has graph id) ≡ true) ⊎ (node.id ≡ id)
    at rest true e = inl refl
    at rest false e = rest e

-- a commit behind its parents
joins : (w : World) (graph above : List Node) (node : Node) (more : List Node) (id : Id) → IsSound w above → Adds graph node.parents above
    → IsCommitIn w node → node.id ≡ id → joined above node ≡ Ok more
    → IsSound w more × Adds graph (id ∷ []) more
joins w graph above node more id sound adds known same e = (
  record {
    commits = λ n c. known_in n (Contains-push_cases above node n (back n c));
    closed = λ n p c inside. j.grows.keeps p (parent n p inside (Contains-push_cases above node n (back n c)));
  },
  record {
    there = λ other c. at other (in_cases id [] other c);
    keeps = λ other f. j.grows.keeps other (adds.keeps other f);
    holds = λ n c. holds n (adds.holds n c);
    new = λ other f. newer other (has_cases above node other (subst (λ (g : List Node). has g other ≡ true) j.is f));
  },
)
  where
    j : IsJoined above node more
    j = joined_is above node more e

    back : (n : Node) → Contains more n → Contains (above ++ node ∷ []) n
    back n c = subst (λ (g : List Node). Contains g n) j.is c

    holds : (n : Node) → Contains above n → Contains more n
    holds n c = subst (λ (g : List Node). Contains g n) (sym j.is) (Contains-append_left above (node ∷ []) n c)

    here : Contains more node
    here = subst (λ (g : List Node). Contains g node) (sym j.is) (Contains-push above node)

    known_in : (n : Node) → Contains above n ⊎ (node ≡ n) → IsCommitIn w n
    known_in n (inl c) = sound.commits n c
    known_in n (inr is) = subst (IsCommitIn w) is known

    parent : (n : Node) (p : Id) → Contains n.parents p → Contains above n ⊎ (node ≡ n) → has above p ≡ true
    parent n p inside (inl c) = sound.closed n p c inside
    parent n p inside (inr is) = adds.there p (subst (λ (m : Node). Contains m.parents p) (sym is) inside)

    at : (other : Id) → (id ≡ other) ⊎ Contains [] other → has more other ≡ true
    at other (inl is) = ap (has more) (sym is ∙ sym same) ∙ j.there
    at other (inr c) = none_in other c

    newer : (other : Id) → (has above other ≡ true) ⊎ (node.id ≡ other) → (has graph other ≡ true) ⊎ Reached more (id ∷ []) other
    newer other (inr is) = inr (record { tip = id; among = (0, omega arith, refl); above = subst (Ancestors more id) (sym same ∙ is) itself })
    newer other (inl f) = further (adds.new other f)
      where
        further : (has graph other ≡ true) ⊎ Reached above node.parents other → (has graph other ≡ true) ⊎ Reached more (id ∷ []) other
        further (inl g) = inl g
        further (inr r) =
            let up : Ancestors more id r.tip = parent_of node r.tip here (subst (Ancestors more id) (sym same) itself) r.among in
            inr (record { tip = id; among = (0, omega arith, refl); above = ancestors_of_ancestor more id r.tip other up (ancestors_more above more holds r.tip other r.above) })

walked_adds : (w : World) (room : ℕ) (graph : List Node) (id : Id) (more : List Node) → IsSound w graph → walked w room graph id ≡ Ok more
    → IsSound w more × Adds graph (id ∷ []) more
walked_adds w zero graph id more sound e = at (has graph id) refl
  where
    at : (t : Bool) → has graph id ≡ t → IsSound w more × Adds graph (id ∷ []) more
    at true there =
        let same : graph ≡ more = (let f = walked_there w 0 graph id there in cc) in (subst (IsSound w) same sound, subst (Adds graph (id ∷ [])) same (added_none graph id there))
    at false new = absurd (none (bind_ok (entered w 0 graph id) (λ node. joined graph node) more (sym (walked_full w graph id new) ∙ e)))
      where
        none : Binds (entered w 0 graph id) (λ node. joined graph node) more → ⊥
        none b = no_room w graph id b.value b.is
walked_adds w (suc room) graph id more sound e = at (walked_adds w room) (has graph id) refl
  where
    at : ((graph : List Node) (id : Id) (more : List Node) → IsSound w graph → walked w room graph id ≡ Ok more → IsSound w more × Adds graph (id ∷ []) more)
        → (t : Bool) → has graph id ≡ t → IsSound w more × Adds graph (id ∷ []) more
    at rest true there =
        let same : graph ≡ more = (let f = walked_there w (suc room) graph id there in cc) in (subst (IsSound w) same sound, subst (Adds graph (id ∷ [])) same (added_none graph id there))
    at rest false new =
        let f = walked_more w room graph id new in
        let b = bind_ok (entered w (suc room) graph id) (λ node. each (walked w room) graph node.parents >>= λ next. joined next node) more (sym f ∙ e) in
        let d = bind_ok (each (walked w room) graph b.value.parents) (λ next. joined next b.value) more b.rest in
        let read = entered_is w (suc room) graph id b.value b.is in
        let above = each_adds w (walked w room) rest b.value.parents graph d.value sound d.is in
        joins w graph d.value b.value more id above.0 above.1 read.0 read.1 d.rest

-- ---- all of it

ancestor_there : (w : World) (graph : List Node) → IsSound w graph → (tip id : Id) → has graph tip ≡ true → Ancestors graph tip id
    → has graph id ≡ true
ancestor_there w graph sound tip _ there itself = there
ancestor_there w graph sound tip _ there (parent_of node id inside above parent) = sound.closed node id inside parent

pub loaded_is_history : (w : World) (tips : List Id) (graph : List Node) → loaded w tips ≡ Ok graph → IsHistory w tips graph
unfolding loaded
loaded_is_history w tips graph e =
    let all = each_adds w (walked w limit) (walked_adds w limit) tips [] graph nothing e in
    record {
      commits = all.0.commits;
      reached = λ id. (λ there. tips_only id (all.1.new id there), λ r. ancestor_there w graph all.0 r.tip id (all.1.there r.tip r.among) r.above);
    }
  where
    nothing : IsSound w []
    nothing = record { commits = λ node c. none_in node c; closed = λ node id c inside. none_in node c }

    tips_only : (id : Id) → (false ≡ true) ⊎ Reached graph tips id → Reached graph tips id
    tips_only id (inl e) = absurd cc
    tips_only id (inr r) = r
