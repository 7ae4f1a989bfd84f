-- Steps of the plan that makes merges again.
use Rattle.std.proofs.Common.{◌≡◌, ℕ, ◌+◌, Bool, true, false, cond, ◌&&◌, List, [], ◌∷◌, ◌++◌, length, Option, Some, None, refl, sym, ap, subst, ◌∙◌, append_assoc}
use Rattle.std.specs.Prelude.{◌||◌, ◌==◌, nat_lt}
use Rattle.std.specs.BTreeMap.{is_at}
use Rattle.std.specs.Cmp.Lexicographic.{slice_cmp}
use Rattle.std.specs.Ordering.{nat_cmp}
use Rattle.std.specs.Str.{bytes_eq}
use Rattle.std.proofs.lemmas.Map.Text.{is_eq-slice_cmp}
use Rattle.merge_base.specs.declared.graph.Node.{Node}
use Rattle.merge_base.specs.Graphs.{is_among, node_at}
use Rattle.todo_text.specs.declared.line.Line.{Line}
use Rattle.todo_plan.specs.declared.fault.PlanFault.{PlanFault}
use Rattle.todo_plan.specs.declared.fault.PlanFault.TheVariants.{Octopus, NewRoot, Memory}
use Rattle.todo_plan.specs.Merges.{Numbers, PlanFails, commit_lines, counted, first_fault, label_lines, numbered, or_fault, parents_fault, range_lines}

-- ---- faults

abbrev IsNamed : PlanFault → Type 0
IsNamed (Octopus id) = Unit {0}
IsNamed (NewRoot id) = Unit {0}
IsNamed Memory = ⊥

parents_named : (node : Node) (fault : PlanFault) → parents_fault (Some node) ≡ Some fault → IsNamed fault
parents_named node fault e = at (length node.parents == 0) (nat_lt 2 (length node.parents)) e
  where
    at : (none many : Bool) → cond none (Some (NewRoot node.id)) (cond many (Some (Octopus node.id)) None) ≡ Some fault → IsNamed fault
    at true many e = let is : NewRoot node.id ≡ fault = cc in subst IsNamed is tt
    at false true e = let is : Octopus node.id ≡ fault = cc in subst IsNamed is tt
    at false false e = absurd cc

first_named : (graph : List Node) (range : List (List ℕ)) (fault : PlanFault) → first_fault graph range ≡ Some fault → IsNamed fault
first_named graph [] fault e = absurd cc
first_named graph (id ∷ range) fault e = at (first_named graph range fault) (node_at graph id) e
  where
    here : (first_fault graph range ≡ Some fault → IsNamed fault) → (node : Node) (found : Option PlanFault) → parents_fault (Some node) ≡ found
        → or_fault found (first_fault graph range) ≡ Some fault → IsNamed fault
    here rest node None is e = rest e
    here rest node (Some blamed) is e = let same : blamed ≡ fault = cc in subst IsNamed same (parents_named node blamed is)

    at : (first_fault graph range ≡ Some fault → IsNamed fault) → (found : Option Node)
        → or_fault (parents_fault found) (first_fault graph range) ≡ Some fault → IsNamed fault
    at rest None e = rest e
    at rest (Some node) e = here rest node (parents_fault (Some node)) refl e

pub blamed : (graph : List Node) (range : List (List ℕ)) (fault : PlanFault) → first_fault graph range ≡ Some fault
    → PlanFails (first_fault graph range) fault
blamed graph range (Octopus id) e = e
blamed graph range (NewRoot id) e = e
blamed graph range Memory e = absurd (first_named graph range Memory e)

-- ---- sets and numbers

-- an id that is put into a set is among those that are left no more
pub put_among : (x : List ℕ) (rest : List (List ℕ)) (was is : Bool) (other : List ℕ) → is ≡ cond (is_at (slice_cmp nat_cmp x) other) true was
    → (is_among rest other || is) ≡ (is_among (x ∷ rest) other || was)
put_among x rest was is other e =
    ap (λ b. is_among rest other || b) (e ∙ ap (λ b. cond b true was) (is_eq-slice_cmp x other)) ∙ at (is_among rest other) (bytes_eq x other)
  where
    at : (r b : Bool) → (r || cond b true was) ≡ ((b || r) || was)
    at true true = refl
    at true false = refl
    at false true = refl
    at false false = refl

pub put_number : (id : List ℕ) (number : ℕ) (wanted : Bool) (was is : Option ℕ) (other : List ℕ) → wanted ≡ true
    → is ≡ cond (is_at (slice_cmp nat_cmp id) other) (Some number) was → is ≡ cond (wanted && bytes_eq id other) (Some number) was
put_number id number wanted was is other w e =
    e ∙ ap (λ b. cond b (Some number) was) (is_eq-slice_cmp id other) ∙ ap (λ b. cond (b && bytes_eq id other) (Some number) was) (sym w)

-- ---- lines

-- the lines of one more commit, and its label
pub one_commit : (graph : List Node) (base : List ℕ) (ids : List (List ℕ)) (numbers after : Numbers) (count count' : ℕ) (place id : List ℕ) (rest : List (List ℕ)) (wanted : Bool) (ls with more : List Line)
    → wanted ≡ is_among ids id → with ≡ ls ++ commit_lines base numbers place (node_at graph id) → more ≡ with ++ label_lines wanted (count + 1)
    → ((other : List ℕ) → after other ≡ numbered wanted (count + 1) id numbers other) → count' ≡ counted wanted count
    → more ++ range_lines graph base ids after count' id rest ≡ ls ++ range_lines graph base ids numbers count place (id ∷ rest)
one_commit graph base ids numbers after count count' place id rest wanted ls with more w e f n k =
    let own = commit_lines base numbers place (node_at graph id) in
    (λ i. more ++ range_lines graph base ids (λ other. n other i) (k i) id rest)
    ∙ (λ i. more ++ range_lines graph base ids (numbered (w i) (count + 1) id numbers) (counted (w i) count) id rest)
    ∙ (λ i. (f ∙ ap (λ (l : List Line). l ++ label_lines wanted (count + 1)) e ∙ (λ j. (ls ++ own) ++ label_lines (w j) (count + 1))) i ++ range_lines graph base ids (numbered (is_among ids id) (count + 1) id numbers) (counted (is_among ids id) count) id rest)
    ∙ append_assoc (ls ++ own) (label_lines (is_among ids id) (count + 1)) (range_lines graph base ids (numbered (is_among ids id) (count + 1) id numbers) (counted (is_among ids id) count) id rest)
    ∙ append_assoc ls own (label_lines (is_among ids id) (count + 1) ++ range_lines graph base ids (numbered (is_among ids id) (count + 1) id numbers) (counted (is_among ids id) count) id rest)
