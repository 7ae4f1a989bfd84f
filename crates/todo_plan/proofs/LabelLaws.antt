-- The todo that makes merges again sets each label once, before it is used.
use Rattle.std.proofs.Common.{◌≡◌, ◌⊎◌, inl, inr, ℕ, ◌+◌, ◌<◌, ◌≤◌, ◌^◌, Bool, true, false, cond, not, ◌||◌, List, [], ◌∷◌, ◌++◌, length, Option, Some, None, refl, sym, ap, ◌∙◌, arith}
use Rattle.std.specs.Prelude.{codes}
use Rattle.std.specs.Str.{bytes_eq}
use Rattle.std.proofs.lemmas.Bool.{or_cases, or_right}
use Rattle.std.proofs.lemmas.Slice.Eq.{bytes_eq-Decides}
use Rattle.hex.specs.Hex.{encode_lower}
use Rattle.merge_base.specs.declared.graph.Node.{Node}
use Rattle.merge_base.specs.Graphs.{is_among, node_at}
use Rattle.todo_text.specs.declared.line.Line.{Line}
use Rattle.todo_text.specs.declared.line.Line.TheVariants.{Reset}
use Rattle.todo_plan.specs.Commits.{pick_of}
use Rattle.todo_plan.specs.Labels.{AreLabelsSet, IsKnown}
use Rattle.todo_plan.specs.Merges.{Numbers, commit_lines, counted, label_lines, label_name, lines_on, merge_of, merges_todo, name_by, name_of, named, numbered, range_lines}
use Rattle.todo_plan.proofs.PlaceLaws.{label_no_onto, labels_differ}

-- the labels that were set are `onto` and those with the numbers so far
record AreNumbered (labels : List (List ℕ)) (numbers : Numbers) (count : ℕ) : Type 0 where
  onto : is_among labels (codes "onto") ≡ true
  set : (id : List ℕ) (n : ℕ) → numbers id ≡ Some n → is_among labels (label_name n) ≡ true
  only : (name : List ℕ) → is_among labels name ≡ true → (name ≡ codes "onto") ⊎ ((n : ℕ) × (n ≤ count) × (name ≡ label_name n))

self : (name : List ℕ) → bytes_eq name name ≡ true
self name = (bytes_eq-Decides name name).1 refl

-- the next label is new
new_label : (labels : List (List ℕ)) (numbers : Numbers) (count : ℕ) → count + 1 < 2 ^ 64 → AreNumbered labels numbers count
    → is_among labels (label_name (count + 1)) ≡ false
new_label labels numbers count small a = at (is_among labels (label_name (count + 1))) refl
  where
    clash : (label_name (count + 1) ≡ codes "onto") ⊎ ((n : ℕ) × (n ≤ count) × (label_name (count + 1) ≡ label_name n)) → ⊥
    clash (inl is) = let yes = (bytes_eq-Decides (label_name (count + 1)) (codes "onto")).1 is in let no = label_no_onto (count + 1) in cc
    clash (inr w) =
        let l : w.0 ≤ count = w.1 in
        let yes = (bytes_eq-Decides (label_name (count + 1)) (label_name w.0)).1 w.2 in
        let no = labels_differ (count + 1) w.0 (omega arith) small in
        cc

    at : (t : Bool) → is_among labels (label_name (count + 1)) ≡ t → is_among labels (label_name (count + 1)) ≡ false
    at false e = e
    at true e = absurd (clash (a.only (label_name (count + 1)) e))

-- a name in a line is known
known : (labels : List (List ℕ)) (base : List ℕ) (numbers : Numbers) (count : ℕ) → AreNumbered labels numbers count → (id : List ℕ)
    → IsKnown labels (name_of base numbers id)
known labels base numbers count a id = at (numbers id) refl
  where
    none : (t : Bool) → IsKnown labels (cond t (codes "onto") (encode_lower id))
    none true = inl a.onto
    none false = inr (id, refl)

    at : (number : Option ℕ) → numbers id ≡ number → IsKnown labels (name_by number base id)
    at (Some n) e = inl (a.set id n e)
    at None e = none (bytes_eq id base)

numbered_more : (labels : List (List ℕ)) (numbers : Numbers) (count : ℕ) (id : List ℕ) → AreNumbered labels numbers count
    → AreNumbered (label_name (count + 1) ∷ labels) (numbered true (count + 1) id numbers) (count + 1)
numbered_more labels numbers count id a = record {
  onto =
      ap (λ (t : Bool). bytes_eq (label_name (count + 1)) (codes "onto") || t) a.onto
      ∙ or_right (bytes_eq (label_name (count + 1)) (codes "onto")) true refl;
  set = λ other n e. at other n (bytes_eq id other) e;
  only = λ name e. come name (or_cases (bytes_eq (label_name (count + 1)) name) (is_among labels name) e);
}
  where
    at : (other : List ℕ) (n : ℕ) (t : Bool) → cond t (Some (count + 1)) (numbers other) ≡ Some n
        → (bytes_eq (label_name (count + 1)) (label_name n) || is_among labels (label_name n)) ≡ true
    at other n true e =
        let same : count + 1 ≡ n = cc in
        ap (λ (t : Bool). t || is_among labels (label_name n)) (ap (λ (k : ℕ). bytes_eq (label_name (count + 1)) (label_name k)) (sym same) ∙ self (label_name (count + 1)))
    at other n false e =
        ap (λ (t : Bool). bytes_eq (label_name (count + 1)) (label_name n) || t) (a.set other n e)
        ∙ or_right (bytes_eq (label_name (count + 1)) (label_name n)) true refl

    farther : (name : List ℕ) → (name ≡ codes "onto") ⊎ ((n : ℕ) × (n ≤ count) × (name ≡ label_name n))
        → (name ≡ codes "onto") ⊎ ((n : ℕ) × (n ≤ count + 1) × (name ≡ label_name n))
    farther name (inl e) = inl e
    farther name (inr w) = let l : w.0 ≤ count = w.1 in inr (w.0, omega arith, w.2)

    come : (name : List ℕ) → (bytes_eq (label_name (count + 1)) name ≡ true) ⊎ (is_among labels name ≡ true)
        → (name ≡ codes "onto") ⊎ ((n : ℕ) × (n ≤ count + 1) × (name ≡ label_name n))
    come name (inl e) = inr (count + 1, omega arith, sym ((bytes_eq-Decides (label_name (count + 1)) name).0 e))
    come name (inr e) = farther name (a.only name e)

-- ---- lines

lines_known : (labels : List (List ℕ)) (base : List ℕ) (numbers : Numbers) (count : ℕ) (place : List ℕ) (node : Node)
    → AreNumbered labels numbers count
    → (parents : List (List ℕ)) (lines : List Line) → AreLabelsSet labels lines → AreLabelsSet labels (lines_on base numbers place node parents ++ lines)
lines_known labels base numbers count place node a [] lines h = h
lines_known labels base numbers count place node a (first ∷ []) lines h = at (bytes_eq first place)
  where
    at : (t : Bool) → AreLabelsSet labels ((cond (not t) (Reset (name_of base numbers first) [] ∷ []) [] ++ pick_of node ∷ []) ++ lines)
    at true = h
    at false = (known labels base numbers count a first, h)
lines_known labels base numbers count place node a (first ∷ second ∷ others) lines h = at (bytes_eq first place)
  where
    at : (t : Bool)
        → AreLabelsSet labels ((cond (not t) (Reset (name_of base numbers first) [] ∷ []) [] ++ merge_of base numbers node second ∷ []) ++ lines)
    at true = (known labels base numbers count a second, h)
    at false = (known labels base numbers count a first, (known labels base numbers count a second, h))

commit_known : (labels : List (List ℕ)) (base : List ℕ) (numbers : Numbers) (count : ℕ) (place : List ℕ) (found : Option Node)
    → AreNumbered labels numbers count
    → (lines : List Line) → AreLabelsSet labels lines → AreLabelsSet labels (commit_lines base numbers place found ++ lines)
commit_known labels base numbers count place None a lines h = h
commit_known labels base numbers count place (Some node) a lines h = lines_known labels base numbers count place node a node.parents lines h

range_known : (graph : List Node) (base : List ℕ) (wanted : List (List ℕ)) (labels : List (List ℕ)) (numbers : Numbers) (count : ℕ) (place : List ℕ) (ids : List (List ℕ))
    → count + length ids < 2 ^ 64
    → AreNumbered labels numbers count → AreLabelsSet labels (range_lines graph base wanted numbers count place ids)
range_known graph base wanted labels numbers count place [] small a = tt
range_known graph base wanted labels numbers count place (id ∷ ids) small a =
    commit_known labels base numbers count place (node_at graph id) a _ (at (λ labels numbers count small a. range_known graph base wanted labels numbers count id ids small a) (is_among wanted id))
  where
    at : ((labels : List (List ℕ)) (numbers : Numbers) (count : ℕ) → count + length ids < 2 ^ 64 → AreNumbered labels numbers count → AreLabelsSet labels (range_lines graph base wanted numbers count id ids))
        → (t : Bool)
        → AreLabelsSet labels (label_lines t (count + 1) ++ range_lines graph base wanted (numbered t (count + 1) id numbers) (counted t count) id ids)
    at rest true =
        (new_label labels numbers count (omega arith) a, rest (label_name (count + 1) ∷ labels) (numbered true (count + 1) id numbers) (count + 1) (omega arith) (numbered_more labels numbers count id a))
    at rest false = rest labels numbers count (omega arith) a

begun : AreNumbered (codes "onto" ∷ []) (λ id. None) 0
begun = record { onto = refl; set = λ id n e. absurd cc; only = λ name e. only name (or_cases (bytes_eq (codes "onto") name) false e) }
  where
    only : (name : List ℕ) → (bytes_eq (codes "onto") name ≡ true) ⊎ (false ≡ true)
        → (name ≡ codes "onto") ⊎ ((n : ℕ) × (n ≤ 0) × (name ≡ label_name n))
    only name (inl e) = inl (sym ((bytes_eq-Decides (codes "onto") name).0 e))
    only name (inr e) = absurd cc

pub labels_set : (graph : List Node) (base : List ℕ) (range : List (List ℕ)) → length range < 2 ^ 64 → AreLabelsSet [] (merges_todo graph base range)
labels_set graph base [] small = tt
labels_set graph base (id ∷ ids) small =
    (refl, range_known graph base (named graph base (id ∷ ids)) (codes "onto" ∷ []) (λ other. None) 0 base (id ∷ ids) (omega arith) begun)
