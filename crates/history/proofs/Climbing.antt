-- A walk, commit by commit.
use Rattle.std.proofs.Common.{◌≡◌, ℕ, zero, suc, ◌+◌, ◌-◌, ◌<◌, Bool, true, false, cond, not, List, [], ◌∷◌, ◌++◌, length, reverse, take, Option, Some, None, MatchOption, Result, Ok, Err, refl, sym, ap, subst, ◌∙◌, arith, lit<}
use Rattle.std.specs.Option.{option_to_list}
use Rattle.std.proofs.lemmas.List.{append-nil, length-reverse, reverse-append}
use Rattle.merge_base.specs.declared.graph.Node.{Node}
use Rattle.merge_base.specs.Graphs.{first_missing, has, limit}
use Rattle.seq_base.specs.Words.{Id}
use Rattle.seq_base.specs.World.{World}
use Rattle.seq_outside.specs.Halts.{◌>>=◌, Denies, Gives}
use Rattle.seq_outside.specs.declared.halt.Halt.{Halt}
use Rattle.seq_outside.specs.declared.halt.Halt.TheVariants.{Stops, Fault, Memory}
use Rattle.seq_outside.specs.declared.lack.Lack.{Lack}
use Rattle.history.specs.Loads.{each, entered, joined, loaded, walked}
use Rattle.history.specs.Waiting.{waited}
use Rattle.history.proofs.Growing.{Grows, Walk, each-cons, each-nil, each_grows, grows_on, joined_is, walked_grows, walked_full, walked_new, walked_there}

-- ---- the first commit that is missing

each_passes : (walk : Walk) (graph : List Node) (id : Id) (ids : List Id) → walk graph id ≡ Ok graph
    → each walk graph (id ∷ ids) ≡ each walk graph ids
each_passes walk graph id ids e = each-cons walk graph id ids ∙ ap (λ (r : Result (List Node) Lack). r >>= λ more. each walk more ids) e

record StopsAt (walk : Walk) (graph : List Node) (ids : List Id) (id : Id) : Type 0 where
  after : List Id
  now : each walk graph ids ≡ (walk graph id >>= λ more. each walk more after)
  later : (more : List Node) → Grows graph more → has more id ≡ true → each walk more ids ≡ each walk more after

stops_at : (walk : Walk) → ((graph : List Node) (id : Id) → has graph id ≡ true → walk graph id ≡ Ok graph)
    → (ids : List Id) (graph : List Node) (id : Id) → first_missing graph ids ≡ Some id → StopsAt walk graph ids id
stops_at walk passes [] graph id e = absurd cc
stops_at walk passes (other ∷ ids) graph id e = at (stops_at walk passes ids graph id) (has graph other) refl e
  where
    at : (first_missing graph ids ≡ Some id → StopsAt walk graph ids id) → (t : Bool) → has graph other ≡ t
        → cond (not t) (Some other) (first_missing graph ids) ≡ Some id → StopsAt walk graph (other ∷ ids) id
    at rest true is e =
        let r = rest e in
        record {
          after = r.after;
          now = each_passes walk graph other ids (passes graph other is) ∙ r.now;
          later = λ more g there. each_passes walk more other ids (passes more other (g.keeps other is)) ∙ r.later more g there;
        }
    at rest false is e =
        let same : other ≡ id = cc in
        record {
          after = ids;
          now = each-cons walk graph other ids ∙ ap (λ (i : Id). walk graph i >>= λ more. each walk more ids) same;
          later = λ more g there. each_passes walk more other ids (passes more other (ap (has more) same ∙ there));
        }

none_missing : (walk : Walk) → ((graph : List Node) (id : Id) → has graph id ≡ true → walk graph id ≡ Ok graph) → (ids : List Id) (graph : List Node)
    → first_missing graph ids ≡ None → each walk graph ids ≡ Ok graph
none_missing walk passes [] graph e = each-nil walk graph
none_missing walk passes (other ∷ ids) graph e = at (none_missing walk passes ids graph) (has graph other) refl e
  where
    at : (first_missing graph ids ≡ None → each walk graph ids ≡ Ok graph) → (t : Bool) → has graph other ≡ t
        → cond (not t) (Some other) (first_missing graph ids) ≡ None → each walk graph (other ∷ ids) ≡ Ok graph
    at rest true is e = each_passes walk graph other ids (passes graph other is) ∙ rest e
    at rest false is e = absurd cc

missing_is_new : (ids : List Id) (graph : List Node) (id : Id) → first_missing graph ids ≡ Some id → has graph id ≡ false
missing_is_new [] graph id e = absurd cc
missing_is_new (other ∷ ids) graph id e = at (missing_is_new ids graph id) (has graph other) refl e
  where
    at : (first_missing graph ids ≡ Some id → has graph id ≡ false) → (t : Bool) → has graph other ≡ t
        → cond (not t) (Some other) (first_missing graph ids) ≡ Some id → has graph id ≡ false
    at rest true is e = rest e
    at rest false is e = let same : other ≡ id = cc in ap (has graph) (sym same) ∙ is

walked_stops : (w : World) (room : ℕ) (graph : List Node) (id : Id) (why : Lack) → has graph id ≡ false → entered w room graph id ≡ Err why
    → walked w room graph id ≡ Err why
walked_stops w zero graph id why new is = walked_full w graph id new ∙ ap (λ (r : Result Node Lack). r >>= λ node. joined graph node) is
walked_stops w (suc room) graph id why new is =
    walked_new w (suc room) graph id (omega arith) new
    ∙ ap (λ (r : Result Node Lack). r >>= λ node. each (walked w (suc room - 1)) graph node.parents >>= λ more. joined more node) is

-- ---- commits that wait

pub waited-nil : (w : World) (graph : List Node) → waited w graph [] ≡ Ok graph
unfolding waited
waited-nil w graph = refl

pub waited-cons : (w : World) (graph : List Node) (node : Node) (waiting : List Node)
    → waited w graph (node ∷ waiting) ≡ (each (walked w (limit - (length waiting + 1))) graph node.parents >>= λ more. joined more node >>= λ behind. waited w behind waiting)
unfolding waited
waited-cons w graph node waiting = refl

-- the last of those that wait has all its parents
waited_joins : (w : World) (graph : List Node) (node : Node) (waiting : List Node) → first_missing graph node.parents ≡ None
    → waited w graph (node ∷ waiting) ≡ (joined graph node >>= λ behind. waited w behind waiting)
waited_joins w graph node waiting none =
    let room = limit - (length waiting + 1) in
    waited-cons w graph node waiting
    ∙ ap (λ (r : Result (List Node) Lack). r >>= λ more. joined more node >>= λ behind. waited w behind waiting) (none_missing (walked w room) (walked_there w room) node.parents graph none)

-- it waits for a parent, which was read
opened : (w : World) (room : ℕ) (graph : List Node) (parent : Node) (id : Id) (after : List Id) (next : List Node → Result (List Node) Lack) (rest : List Node → Result (List Node) Lack)
    → parent.id ≡ id
    → ((more : List Node) → Grows graph more → has more id ≡ true → (each (walked w room) more after >>= next) ≡ rest more)
    → (r : Result (List Node) Lack) → each (walked w (room - 1)) graph parent.parents ≡ r
    → (((r >>= λ more. joined more parent) >>= λ more. each (walked w room) more after) >>= next) ≡ (r >>= λ more. joined more parent >>= rest)
opened w room graph parent id after next rest same by (Err why) e = refl
opened w room graph parent id after next rest same by (Ok more) e = last (joined more parent) refl
  where
    last : (r : Result (List Node) Lack) → joined more parent ≡ r → ((r >>= λ behind. each (walked w room) behind after) >>= next) ≡ (r >>= rest)
    last (Err why) f = refl
    last (Ok behind) f =
        let j = joined_is more parent behind f in
        by behind (grows_on (each_grows (walked w (room - 1)) (walked_grows w (room - 1)) parent.parents graph more e) j.grows) (ap (has behind) (sym same) ∙ j.there)

waited_waits : (w : World) (graph : List Node) (node : Node) (waiting : List Node) (id : Id) (parent : Node) (room : ℕ)
    → room ≡ limit - (length waiting + 1) → 0 < room
    → first_missing graph node.parents ≡ Some id → parent.id ≡ id → entered w room graph id ≡ Ok parent
    → waited w graph (node ∷ waiting) ≡ waited w graph (parent ∷ node ∷ waiting)
waited_waits w graph node waiting id parent room k some first same is =
    let next : List Node → Result (List Node) Lack = (λ more. joined more node >>= λ behind. waited w behind waiting) in
    let s = stops_at (walked w room) (walked_there w room) node.parents graph id first in
    let here : (more : List Node) → waited w more (node ∷ waiting) ≡ (each (walked w room) more node.parents >>= next) =
    (λ more. waited-cons w more node waiting ∙ ap (λ (n : ℕ). each (walked w n) more node.parents >>= next) (sym k)) in
    let less : limit - (length (node ∷ waiting) + 1) ≡ room - 1 = omega (arith, k) in
    let above : waited w graph (parent ∷ node ∷ waiting) ≡ (each (walked w (room - 1)) graph parent.parents >>= λ more. joined more parent >>= λ behind. waited w behind (node ∷ waiting)) =
    waited-cons w graph parent (node ∷ waiting) ∙ ap (λ (n : ℕ). each (walked w n) graph parent.parents >>= λ more. joined more parent >>= λ behind. waited w behind (node ∷ waiting)) less in
    here graph
    ∙ ap (λ (r : Result (List Node) Lack). r >>= next)
    (s.now ∙ ap (λ (r : Result (List Node) Lack). r >>= λ more. each (walked w room) more s.after)
    (walked_new w room graph id some (missing_is_new node.parents graph id first)
    ∙ ap (λ (r : Result Node Lack). r >>= λ other. each (walked w (room - 1)) graph other.parents >>= λ more. joined more other) is))
    ∙ opened w room graph parent id s.after next (λ behind. waited w behind (node ∷ waiting)) same
    (λ more g there. ap (λ (r : Result (List Node) Lack). r >>= next) (sym (s.later more g there)) ∙ sym (here more))
    (each (walked w (room - 1)) graph parent.parents) refl
    ∙ sym above

-- it waits for a parent that could not be read
waited_stops : (w : World) (graph : List Node) (node : Node) (waiting : List Node) (id : Id) (why : Lack) (room : ℕ)
    → room ≡ limit - (length waiting + 1)
    → first_missing graph node.parents ≡ Some id → entered w room graph id ≡ Err why
    → waited w graph (node ∷ waiting) ≡ Err why
waited_stops w graph node waiting id why room k first is =
    let next : List Node → Result (List Node) Lack = (λ more. joined more node >>= λ behind. waited w behind waiting) in
    let s = stops_at (walked w room) (walked_there w room) node.parents graph id first in
    waited-cons w graph node waiting ∙ ap (λ (n : ℕ). each (walked w n) graph node.parents >>= next) (sym k)
    ∙ ap (λ (r : Result (List Node) Lack). r >>= next)
    (s.now ∙ ap (λ (r : Result (List Node) Lack). r >>= λ more. each (walked w room) more s.after) (walked_stops w room graph id why (missing_is_new node.parents graph id first) is))

-- ---- as the stack has them, the last one at its end

snoc_reverse : (waiting : List Node) (node : Node) → reverse (waiting ++ node ∷ []) ≡ node ∷ reverse waiting
snoc_reverse waiting node = reverse-append waiting (node ∷ [])

pub stack_joins : (w : World) (graph : List Node) (node : Node) (stack : List Node) (behind : List Node) → first_missing graph node.parents ≡ None
    → joined graph node ≡ Ok behind
    → waited w graph (reverse (stack ++ node ∷ [])) ≡ waited w behind (reverse stack)
stack_joins w graph node stack behind none is =
    ap (waited w graph) (snoc_reverse stack node) ∙ waited_joins w graph node (reverse stack) none ∙ ap (λ (r : Result (List Node) Lack). r >>= λ more. waited w more (reverse stack)) is

pub stack_is_bad : (w : World) (graph : List Node) (node : Node) (stack : List Node) (why : Lack) → first_missing graph node.parents ≡ None
    → joined graph node ≡ Err why
    → waited w graph (reverse (stack ++ node ∷ [])) ≡ Err why
stack_is_bad w graph node stack why none is =
    ap (waited w graph) (snoc_reverse stack node) ∙ waited_joins w graph node (reverse stack) none ∙ ap (λ (r : Result (List Node) Lack). r >>= λ more. waited w more (reverse stack)) is

pub stack_waits : (w : World) (graph : List Node) (node : Node) (stack : List Node) (id : Id) (parent : Node) (room : ℕ)
    → room + length stack + 1 ≡ limit → 0 < room
    → first_missing graph node.parents ≡ Some id → parent.id ≡ id → entered w room graph id ≡ Ok parent
    → waited w graph (reverse (stack ++ node ∷ [])) ≡ waited w graph (reverse ((stack ++ node ∷ []) ++ parent ∷ []))
stack_waits w graph node stack id parent room fits some first same is =
    let len = length-reverse stack in
    let k : room ≡ limit - (length (reverse stack) + 1) = omega (arith, len) in
    ap (waited w graph) (snoc_reverse stack node)
    ∙ waited_waits w graph node (reverse stack) id parent room k some first same is
    ∙ ap (waited w graph) (sym (snoc_reverse (stack ++ node ∷ []) parent ∙ ap (λ (xs : List Node). parent ∷ xs) (snoc_reverse stack node)))

pub stack_stops : (w : World) (graph : List Node) (node : Node) (stack : List Node) (id : Id) (why : Lack) (room : ℕ)
    → room + length stack + 1 ≡ limit
    → first_missing graph node.parents ≡ Some id → entered w room graph id ≡ Err why
    → waited w graph (reverse (stack ++ node ∷ [])) ≡ Err why
stack_stops w graph node stack id why room fits first is =
    let len = length-reverse stack in
    let k : room ≡ limit - (length (reverse stack) + 1) = omega (arith, len) in
    ap (waited w graph) (snoc_reverse stack node) ∙ waited_stops w graph node (reverse stack) id why room k first is

-- ---- one commit and its history

pub walk_waits : (w : World) (graph : List Node) (id : Id) (node : Node) → has graph id ≡ false → entered w limit graph id ≡ Ok node
    → walked w limit graph id ≡ waited w graph (reverse (node ∷ []))
walk_waits w graph id node new is =
    walked_new w limit graph id (lit< tt) new
    ∙ ap (λ (r : Result Node Lack). r >>= λ other. each (walked w (limit - 1)) graph other.parents >>= λ more. joined more other) is
    ∙ by (each (walked w (limit - 1)) graph node.parents)
    ∙ sym (waited-cons w graph node [])
  where
    last : (r : Result (List Node) Lack) → r ≡ (r >>= λ behind. waited w behind [])
    last (Ok behind) = sym (waited-nil w behind)
    last (Err why) = refl

    by : (r : Result (List Node) Lack) → (r >>= λ more. joined more node) ≡ (r >>= λ more. joined more node >>= λ behind. waited w behind [])
    by (Ok more) = last (joined more node)
    by (Err why) = refl

pub walk_stops : (w : World) (graph : List Node) (id : Id) (why : Lack) → has graph id ≡ false → entered w limit graph id ≡ Err why
    → walked w limit graph id ≡ Err why
walk_stops w graph id why new is = walked_stops w limit graph id why new is

-- ---- what the answers go by

pub climb_waits : (w now : World) (graph : List Node) (stack items pushed more : List Node) (node parent : Node) (id : Id) (room : ℕ) (total : Result (List Node) Lack)
    → now ≡ w
    → items ≡ stack ++ node ∷ [] → pushed ≡ stack ++ node ∷ [] → more ≡ pushed ++ parent ∷ [] → room + length stack + 1 ≡ limit → length graph < room
    → first_missing graph node.parents ≡ Some id → parent.id ≡ id → entered now room graph id ≡ Ok parent → waited w graph (reverse items) ≡ total → waited w graph (reverse more) ≡ total
climb_waits w now graph stack items pushed more node parent id room total same at push again fits some first is read was =
    ap (λ (xs : List Node). waited w graph (reverse xs)) (again ∙ ap (λ (xs : List Node). xs ++ parent ∷ []) push)
    ∙ sym (stack_waits w graph node stack id parent room fits (omega arith) first is (ap (λ (v : World). entered v room graph id) (sym same) ∙ read))
    ∙ ap (λ (xs : List Node). waited w graph (reverse xs)) (sym at) ∙ was

pub climb_denies : (w now : World) (graph : List Node) (stack items : List Node) (node : Node) (id : Id) (room : ℕ) (halt : Halt Lack) (total : Result (List Node) Lack)
    → now ≡ w
    → items ≡ stack ++ node ∷ [] → room + length stack + 1 ≡ limit → first_missing graph node.parents ≡ Some id → waited w graph (reverse items) ≡ total
    → Denies halt (entered now room graph id) → Denies halt total
climb_denies w now graph stack items node id room (Stops why) total same at fits first was d =
    sym was ∙ ap (λ (xs : List Node). waited w graph (reverse xs)) at ∙ stack_stops w graph node stack id why room fits first (ap (λ (v : World). entered v room graph id) (sym same) ∙ d)
climb_denies w now graph stack items node id room Fault total same at fits first was d = tt
climb_denies w now graph stack items node id room Memory total same at fits first was d = tt

pub climb_joins : (w : World) (graph : List Node) (stack items : List Node) (node : Node) (behind : List Node) (total : Result (List Node) Lack)
    → items ≡ stack ++ node ∷ [] → first_missing graph node.parents ≡ None → joined graph node ≡ Ok behind → waited w graph (reverse items) ≡ total → waited w behind (reverse stack) ≡ total
climb_joins w graph stack items node behind total at none is was =
    sym (stack_joins w graph node stack behind none is) ∙ ap (λ (xs : List Node). waited w graph (reverse xs)) (sym at) ∙ was

pub climb_is_bad : (w : World) (graph : List Node) (stack items : List Node) (node : Node) (halt : Halt Lack) (total : Result (List Node) Lack)
    → items ≡ stack ++ node ∷ [] → first_missing graph node.parents ≡ None → waited w graph (reverse items) ≡ total → Denies halt (joined graph node) → Denies halt total
climb_is_bad w graph stack items node (Stops why) total at none was d =
    sym was ∙ ap (λ (xs : List Node). waited w graph (reverse xs)) at ∙ stack_is_bad w graph node stack why none d
climb_is_bad w graph stack items node Fault total at none was d = tt
climb_is_bad w graph stack items node Memory total at none was d = tt

pub climb_ends : (w : World) (graph : List Node) (items : List Node) (total : Result (List Node) Lack) → items ≡ []
    → waited w graph (reverse items) ≡ total → total ≡ Ok graph
climb_ends w graph items total none was = sym was ∙ ap (λ (xs : List Node). waited w graph (reverse xs)) none ∙ waited-nil w graph

pub walk_denies : (w : World) (graph : List Node) (id : Id) (halt : Halt Lack) → has graph id ≡ false → Denies halt (entered w limit graph id)
    → Denies halt (walked w limit graph id)
walk_denies w graph id (Stops why) new d = walk_stops w graph id why new d
walk_denies w graph id Fault new d = tt
walk_denies w graph id Memory new d = tt

pub walk_gives : (w now : World) (graph : List Node) (id : Id) (node : Node) (items : List Node) (result : Result (Unit {0}) (Halt Lack)) (after : List Node)
    → now ≡ w → has graph id ≡ false
    → entered w limit graph id ≡ Ok node → items ≡ node ∷ [] → Gives (λ (done : Unit {0}). after) result (waited now graph (reverse items)) → Gives (λ (done : Unit {0}). after) result (walked w limit graph id)
walk_gives w now graph id node items result after same new is at h =
    let eq : waited now graph (reverse items) ≡ walked w limit graph id =
    ap (λ (xs : List Node). waited now graph (reverse xs)) at ∙ ap (λ (v : World). waited v graph (reverse (node ∷ []))) same ∙ sym (walk_waits w graph id node new is) in
    subst (λ (m : Result (List Node) Lack). Gives (λ (done : Unit {0}). after) result m) eq h

pub loaded-each : (w : World) (tips : List Id) → each (walked w limit) [] tips ≡ loaded w tips
unfolding loaded
loaded-each w tips = refl

pub tip_denies : (w now : World) (graph : List Node) (tip : Id) (left after : List Id) (halt : Halt Lack) (total : Result (List Node) Lack) → now ≡ w
    → left ≡ tip ∷ after
    → each (walked w limit) graph left ≡ total → Denies halt (walked now limit graph tip) → Denies halt total
tip_denies w now graph tip left after (Stops why) total same whole was d =
    sym was ∙ ap (each (walked w limit) graph) whole ∙ each-cons (walked w limit) graph tip after
    ∙ ap (λ (r : Result (List Node) Lack). r >>= λ more. each (walked w limit) more after) (ap (λ (v : World). walked v limit graph tip) (sym same) ∙ d)
tip_denies w now graph tip left after Fault total same whole was d = tt
tip_denies w now graph tip left after Memory total same whole was d = tt

pub tip_walked : (w now : World) (graph more : List Node) (tip : Id) (left after : List Id) (total : Result (List Node) Lack) → now ≡ w
    → left ≡ tip ∷ after
    → each (walked w limit) graph left ≡ total → walked now limit graph tip ≡ Ok more → each (walked w limit) more after ≡ total
tip_walked w now graph more tip left after total same whole was is =
    sym (ap (λ (r : Result (List Node) Lack). r >>= λ next. each (walked w limit) next after) (ap (λ (v : World). walked v limit graph tip) (sym same) ∙ is))
    ∙ sym (each-cons (walked w limit) graph tip after) ∙ ap (each (walked w limit) graph) (sym whole) ∙ was

pub tips_end : (w : World) (graph : List Node) (left : List Id) (total : Result (List Node) Lack) → length left < 1
    → each (walked w limit) graph left ≡ total → total ≡ Ok graph
tips_end w graph [] total l was = sym was ∙ each-nil (walked w limit) graph
tips_end w graph (tip ∷ left) total l was = absurd (omega arith)

pub none_popped : (popped : Option Node) (n m : ℕ) (items left : List Node) → ((node : Node) → popped ≡ Some node → ⊥)
    → MatchOption popped ((n ≡ 0) × (m ≡ 0)) (λ node. m + 1 ≡ n)
    → items ≡ left ++ option_to_list popped → left ≡ take (n - 1) items → items ≡ []
none_popped None n m items left none is at rest =
    let zero_is : n - 1 ≡ 0 = (let empty = is.0 in omega arith) in
    at ∙ append-nil left ∙ rest ∙ ap (λ (i : ℕ). take i items) zero_is
none_popped (Some node) n m items left none is at rest = absurd (none node refl)
