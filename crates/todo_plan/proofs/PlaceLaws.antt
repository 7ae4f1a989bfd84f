-- The todo that makes merges again stands, at each commit, on the commit's own parents.
use Rattle.std.proofs.Common.{◌≡◌, ℕ, suc, ◌+◌, ◌<◌, ◌≤◌, Bool, true, false, cond, not, List, [], ◌∷◌, ◌++◌, length, get_or, drop, Option, Some, None, Contains, is_some, refl, sym, ap, subst, ◌∙◌, arith, append_assoc, ◌/◌, ◌^◌}
use Rattle.std.specs.Prelude.{◌==◌, nat_lt, codes}
use Rattle.std.specs.List.{list_all}
use Rattle.std.specs.Str.{bytes_eq}
use Rattle.std.proofs.lemmas.Bool.{lt-ltb}
use Rattle.std.proofs.lemmas.Slice.Eq.{bytes_eq-Decides}
use Rattle.std.proofs.lemmas.Fmt.{decimal_injective}
use Rattle.hex.specs.Hex.{encode_lower, encode_with, lower_digits}
use Rattle.merge_base.specs.declared.graph.Node.{Node}
use Rattle.merge_base.specs.Graphs.{first_missing, is_among, node_at, parents_in, parents_of}
use Rattle.todo_text.specs.declared.line.Line.{Line}
use Rattle.todo_text.specs.declared.line.Line.TheVariants.{Reset}
use Rattle.todo_plan.specs.declared.fault.PlanFault.TheVariants.{Octopus, NewRoot}
use Rattle.todo_plan.specs.Commits.{pick_of}
use Rattle.todo_plan.specs.Merges.{Numbers, commit_lines, counted, first_fault, label_lines, label_name, lines_on, merge_of, merges_todo, name_by, name_of, named, numbered, parents_fault, range_lines, reset_lines}
use Rattle.todo_plan.specs.Places.{Names, ReadsHex, StandsOn, with_name}
use Rattle.todo_plan.proofs.LinearLaws.{found_id}
use Rattle.todo_plan.proofs.MergeCommits.{fits, goes, has_node}
use Rattle.todo_plan.proofs.Spelled.{digit}

-- ---- names that differ

differ : (a b : List ℕ) → (a ≡ b → ⊥) → bytes_eq a b ≡ false
differ a b ne = at (bytes_eq a b) refl
  where
    at : (t : Bool) → bytes_eq a b ≡ t → t ≡ false
    at true e = absurd (ne ((bytes_eq-Decides a b).0 e))
    at false e = refl

-- hex digits begin with neither `o` nor `r`
hex_head : (c : ℕ) → not (0 == c) ≡ true → list_all (λ x. not (x == c)) lower_digits ≡ true → (id : List ℕ)
    → not (get_or (encode_lower id) 0 0 == c) ≡ true
unfolding encode_with
hex_head c none all [] = none
hex_head c none all (b ∷ rest) = digit (λ x. not (x == c)) none lower_digits (b / 16) all

no_onto : (id : List ℕ) → bytes_eq (codes "onto") (encode_lower id) ≡ false
no_onto id =
    differ (codes "onto") (encode_lower id) (λ e. let h = hex_head 111 refl refl id in let same : not (get_or (encode_lower id) 0 0 == 111) ≡ false = ap (λ (w : List ℕ). not (get_or w 0 0 == 111)) (sym e) in cc)

no_label : (n : ℕ) (id : List ℕ) → bytes_eq (label_name n) (encode_lower id) ≡ false
no_label n id =
    differ (label_name n) (encode_lower id) (λ e. let h = hex_head 114 refl refl id in let same : not (get_or (encode_lower id) 0 0 == 114) ≡ false = ap (λ (w : List ℕ). not (get_or w 0 0 == 114)) (sym e) in cc)

pub label_no_onto : (n : ℕ) → bytes_eq (label_name n) (codes "onto") ≡ false
label_no_onto n =
    differ (label_name n) (codes "onto") (λ e. let same : (get_or (label_name n) 0 0 == 114) ≡ (get_or (codes "onto") 0 0 == 114) = ap (λ (w : List ℕ). get_or w 0 0 == 114) e in let no : true ≡ false = same in cc)

pub labels_differ : (m n : ℕ) → n < m → m < 2 ^ 64 → bytes_eq (label_name m) (label_name n) ≡ false
labels_differ m n l b =
    differ (label_name m) (label_name n) (λ e. let same = decimal_injective m n b (omega arith) (ap (λ (w : List ℕ). drop 3 w) e) in omega (arith, same))

-- ---- names that agree with labels

record Agrees (graph : List Node) (base : List ℕ) (names : Names) (numbers : Numbers) (count : ℕ) : Type 0 where
  reads : ReadsHex graph names
  onto : names (codes "onto") ≡ base
  labels : (id : List ℕ) (n : ℕ) → numbers id ≡ Some n → (names (label_name n) ≡ id) × (n ≤ count)

resolved : (graph : List Node) (base : List ℕ) (names : Names) (numbers : Numbers) (count : ℕ) → Agrees graph base names numbers count → (id : List ℕ)
    → names (encode_lower id) ≡ id → names (name_of base numbers id) ≡ id
resolved graph base names numbers count a id hex = at (numbers id) refl
  where
    none : (t : Bool) → bytes_eq id base ≡ t → names (cond t (codes "onto") (encode_lower id)) ≡ id
    none true e = a.onto ∙ sym ((bytes_eq-Decides id base).0 e)
    none false e = hex

    at : (number : Option ℕ) → numbers id ≡ number → names (name_by number base id) ≡ id
    at (Some n) e = (a.labels id n e).0
    at None e = none (bytes_eq id base) refl

other_name : (name id other : List ℕ) (names : Names) (is : List ℕ) → bytes_eq name other ≡ false → names other ≡ is
    → with_name name id names other ≡ is
other_name name id other names is e h = ap (λ (t : Bool). cond t id (names other)) e ∙ h

labelled : (graph : List Node) (base : List ℕ) (names : Names) (numbers : Numbers) (count : ℕ) (id : List ℕ) → count + 1 < 2 ^ 64
    → Agrees graph base names numbers count
    → Agrees graph base (with_name (label_name (count + 1)) id names) (numbered true (count + 1) id numbers) (count + 1)
labelled graph base names numbers count id small a = record {
  reads = record {
    commits =
        λ node c. other_name (label_name (count + 1)) id (encode_lower node.id) names node.id (no_label (count + 1) node.id) (a.reads.commits node c);
    parents = λ node p c d. other_name (label_name (count + 1)) id (encode_lower p) names p (no_label (count + 1) p) (a.reads.parents node p c d);
  };
  onto = other_name (label_name (count + 1)) id (codes "onto") names base (label_no_onto (count + 1)) a.onto;
  labels = λ other n e. at other n (bytes_eq id other) refl e;
}
  where
    self : (name : List ℕ) → bytes_eq name name ≡ true
    self name = (bytes_eq-Decides name name).1 refl

    at : (other : List ℕ) (n : ℕ) (t : Bool) → bytes_eq id other ≡ t → cond t (Some (count + 1)) (numbers other) ≡ Some n
        → (with_name (label_name (count + 1)) id names (label_name n) ≡ other) × (n ≤ count + 1)
    at other n true e is =
        let same : count + 1 ≡ n = cc in
        (subst (λ (k : ℕ). with_name (label_name (count + 1)) id names (label_name k) ≡ other) same (ap (λ (t : Bool). cond t id (names (label_name (count + 1)))) (self (label_name (count + 1))) ∙ (bytes_eq-Decides id other).0 e), omega (arith, same))
    at other n false e is =
        let was = a.labels other n is in
        let l : n ≤ count = was.1 in
        (other_name (label_name (count + 1)) id (label_name n) names other (labels_differ (count + 1) n (omega arith) small) was.0, omega arith)

-- ---- lines

reset_to : (graph : List Node) (base : List ℕ) (names : Names) (numbers : Numbers) (place first : List ℕ) (lines : List Line)
    → names (name_of base numbers first) ≡ first → StandsOn graph names first lines
    → StandsOn graph names place (reset_lines base numbers place first ++ lines)
reset_to graph base names numbers place first lines named h = at (bytes_eq first place) refl
  where
    at : (t : Bool) → bytes_eq first place ≡ t → StandsOn graph names place (cond (not t) (Reset (name_of base numbers first) [] ∷ []) [] ++ lines)
    at true e = subst (λ (p : List ℕ). StandsOn graph names p lines) ((bytes_eq-Decides first place).0 e) h
    at false e = subst (λ (p : List ℕ). StandsOn graph names p lines) (sym named) h

among : (graph : List Node) (id : List ℕ) (node : Node) → node_at graph id ≡ Some node → Contains graph node
among [] id node e = absurd cc
among (other ∷ graph) id node e = at (among graph id node) (bytes_eq other.id id) e
  where
    at : (node_at graph id ≡ Some node → Contains graph node) → (t : Bool) → cond t (Some other) (node_at graph id) ≡ Some node
        → Contains (other ∷ graph) node
    at rest true e = let is : other ≡ node = cc in (0, omega arith, is)
    at rest false e = let c = rest e in let l : c.0 < length graph = c.1 in (suc c.0, omega arith, c.2)

-- the lines of a commit, from its place on
record Commit (graph : List Node) (node : Node) : Type 0 where
  inside : Contains graph node
  found : node_at graph node.id ≡ Some node

on_commit : (graph : List Node) (base : List ℕ) (names : Names) (numbers : Numbers) (count : ℕ) (place : List ℕ) (node : Node) (lines : List Line)
    → Agrees graph base names numbers count → Commit graph node
    → (parents : List (List ℕ)) → node.parents ≡ parents → cond (length parents == 0) (Some (NewRoot node.id)) (cond (nat_lt 2 (length parents)) (Some (Octopus node.id)) None) ≡ None
    → StandsOn graph names node.id lines → StandsOn graph names place (lines_on base numbers place node parents ++ lines)
on_commit graph base names numbers count place node lines a c [] is fit h = absurd cc
on_commit graph base names numbers count place node lines a c (first ∷ []) is fit h =
    let own = a.reads.commits node c.inside in
    let one = a.reads.parents node first c.inside (subst (λ (ps : List (List ℕ)). Contains ps first) (sym is) (0, omega arith, refl)) in
    subst (StandsOn graph names place) (sym (append_assoc (reset_lines base numbers place first) (pick_of node ∷ []) lines))
    (reset_to graph base names numbers place first (pick_of node ∷ lines) (resolved graph base names numbers count a first one)
    (ap (λ (i : List ℕ). parents_of graph i) own ∙ ap parents_in c.found ∙ is, subst (λ (p : List ℕ). StandsOn graph names p lines) (sym own) h))
on_commit graph base names numbers count place node lines a c (first ∷ second ∷ []) is fit h =
    let own = a.reads.commits node c.inside in
    let one = a.reads.parents node first c.inside (subst (λ (ps : List (List ℕ)). Contains ps first) (sym is) (0, omega arith, refl)) in
    let two = a.reads.parents node second c.inside (subst (λ (ps : List (List ℕ)). Contains ps second) (sym is) (1, omega arith, refl)) in
    subst (StandsOn graph names place) (sym (append_assoc (reset_lines base numbers place first) (merge_of base numbers node second ∷ []) lines))
    (reset_to graph base names numbers place first (merge_of base numbers node second ∷ lines) (resolved graph base names numbers count a first one)
    (ap (λ (i : List ℕ). parents_of graph i) own ∙ ap parents_in c.found ∙ is ∙ ap (λ (i : List ℕ). first ∷ i ∷ []) (sym (resolved graph base names numbers count a second two)), subst (λ (p : List ℕ). StandsOn graph names p lines) (sym own) h))
on_commit graph base names numbers count place node lines a c (first ∷ second ∷ third ∷ others) is fit h =
    let long : 2 < length (first ∷ second ∷ third ∷ others) = omega arith in
    absurd (blamed (length (first ∷ second ∷ third ∷ others) == 0) (nat_lt 2 (length (first ∷ second ∷ third ∷ others))) (lt-ltb 2 (length (first ∷ second ∷ third ∷ others)) long) fit)
  where
    blamed : (none many : Bool) → many ≡ true → cond none (Some (NewRoot node.id)) (cond many (Some (Octopus node.id)) None) ≡ None → ⊥
    blamed true many m e = absurd cc
    blamed false true m e = absurd cc
    blamed false false m e = absurd cc

range_stands : (graph : List Node) (base : List ℕ) (ids : List (List ℕ)) (names : Names) (numbers : Numbers) (count : ℕ) (place : List ℕ) (range : List (List ℕ))
    → Agrees graph base names numbers count → count + length range < 2 ^ 64 → first_missing graph range ≡ None → first_fault graph range ≡ None
    → StandsOn graph names place (range_lines graph base ids numbers count place range)
range_stands graph base ids names numbers count place [] a small there fit = tt
range_stands graph base ids names numbers count place (id ∷ rest) a small there fit =
    let g = goes graph id rest there in
    let f = fits graph (node_at graph id) rest fit in
    at (λ names numbers count a small. range_stands graph base ids names numbers count id rest a small g.later f.later) (node_at graph id) refl (has_node graph id ∙ g.there) f.here
  where
    behind : ((names : Names) (numbers : Numbers) (count : ℕ) → Agrees graph base names numbers count → count + length rest < 2 ^ 64 → StandsOn graph names id (range_lines graph base ids numbers count id rest))
        → (wanted : Bool) → StandsOn graph names id (label_lines wanted (count + 1) ++ range_lines graph base ids (numbered wanted (count + 1) id numbers) (counted wanted count) id rest)
    behind later true =
        later (with_name (label_name (count + 1)) id names) (numbered true (count + 1) id numbers) (count + 1) (labelled graph base names numbers count id (omega arith) a) (omega arith)
    behind later false = later names numbers count a (omega arith)

    at : ((names : Names) (numbers : Numbers) (count : ℕ) → Agrees graph base names numbers count → count + length rest < 2 ^ 64 → StandsOn graph names id (range_lines graph base ids numbers count id rest))
        → (found : Option Node) → node_at graph id ≡ found → is_some found ≡ true → parents_fault found ≡ None
        → StandsOn graph names place (commit_lines base numbers place found ++ (label_lines (is_among ids id) (count + 1) ++ range_lines graph base ids (numbered (is_among ids id) (count + 1) id numbers) (counted (is_among ids id) count) id rest))
    at later None is some fit = absurd cc
    at later (Some node) is some fit =
        let same = found_id graph id node is in
        let lines = label_lines (is_among ids id) (count + 1) ++ range_lines graph base ids (numbered (is_among ids id) (count + 1) id numbers) (counted (is_among ids id) count) id rest in
        on_commit graph base names numbers count place node lines a (record { inside = among graph id node is; found = ap (node_at graph) same ∙ is }) node.parents refl fit
        (subst (λ (p : List ℕ). StandsOn graph names p lines) (sym same) (behind later (is_among ids id)))

pub merges_stand : (graph : List Node) (base : List ℕ) (range : List (List ℕ)) (names : Names) → ReadsHex graph names → length range < 2 ^ 64
    → first_missing graph range ≡ None → first_fault graph range ≡ None → StandsOn graph names base (merges_todo graph base range)
merges_stand graph base [] names reads small there fit = tt
merges_stand graph base (id ∷ rest) names reads small there fit =
    range_stands graph base (named graph base (id ∷ rest)) (with_name (codes "onto") base names) (λ other. None) 0 base (id ∷ rest)
    (record {
      reads = record {
        commits = λ node c. other_name (codes "onto") base (encode_lower node.id) names node.id (no_onto node.id) (reads.commits node c);
        parents = λ node p c d. other_name (codes "onto") base (encode_lower p) names p (no_onto p) (reads.parents node p c d);
      };
      onto = refl;
      labels = λ other n e. absurd cc;
    })
    (omega arith) there fit
