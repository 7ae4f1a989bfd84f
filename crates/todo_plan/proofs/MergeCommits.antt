-- The lines of a range are about its commits, each once, in its order.
use Rattle.std.proofs.Common.{◌≡◌, ℕ, ◌+◌, Bool, true, false, cond, not, List, [], ◌∷◌, ◌++◌, length, map, Option, Some, None, is_some, refl, sym, ap, ◌∙◌, append_assoc}
use Rattle.std.specs.Prelude.{◌||◌, ◌==◌, nat_lt}
use Rattle.std.specs.Str.{bytes_eq}
use Rattle.hex.specs.Hex.{encode_lower}
use Rattle.merge_base.specs.declared.graph.Node.{Node}
use Rattle.merge_base.specs.Graphs.{first_missing, has, is_among, node_at}
use Rattle.todo_text.specs.declared.line.Line.{Line}
use Rattle.todo_text.specs.declared.line.Line.TheVariants.{Reset}
use Rattle.todo_plan.specs.declared.fault.PlanFault.{PlanFault}
use Rattle.todo_plan.specs.declared.fault.PlanFault.TheVariants.{Octopus, NewRoot}
use Rattle.todo_plan.specs.Commits.{pick_of}
use Rattle.todo_plan.specs.Merges.{Numbers, commit_lines, counted, first_fault, is_apart, label_lines, lines_on, merge_of, merges_todo, name_of, named, numbered, or_fault, parents_fault, range_lines, reset_lines}
use Rattle.todo_plan.specs.Told.{revs_of, rev_of}
use Rattle.todo_plan.proofs.LinearLaws.{found_id}

revs_both : (xs ys : List Line) → revs_of (xs ++ ys) ≡ revs_of xs ++ revs_of ys
revs_both [] ys = refl
revs_both (x ∷ xs) ys = ap (λ (rs : List (List ℕ)). rev_of x ++ rs) (revs_both xs ys) ∙ sym (append_assoc (rev_of x) (revs_of xs) (revs_of ys))

-- ---- what is known of a range

pub has_node : (graph : List Node) (id : List ℕ) → is_some (node_at graph id) ≡ has graph id
has_node [] id = refl
has_node (node ∷ graph) id = at (has_node graph id) (bytes_eq node.id id)
  where
    at : is_some (node_at graph id) ≡ has graph id → (t : Bool) → is_some (cond t (Some node) (node_at graph id)) ≡ (t || has graph id)
    at rest true = refl
    at rest false = rest

pub record Goes (graph : List Node) (id : List ℕ) (rest : List (List ℕ)) : Type 0 where
  pub there : has graph id ≡ true
  pub later : first_missing graph rest ≡ None

pub goes : (graph : List Node) (id : List ℕ) (rest : List (List ℕ)) → first_missing graph (id ∷ rest) ≡ None → Goes graph id rest
goes graph id rest e = at (has graph id) refl e
  where
    at : (t : Bool) → has graph id ≡ t → cond (not t) (Some id) (first_missing graph rest) ≡ None → Goes graph id rest
    at true h e = record { there = h; later = e }
    at false h e = absurd cc

pub record Fits (graph : List Node) (found : Option Node) (rest : List (List ℕ)) : Type 0 where
  pub here : parents_fault found ≡ None
  pub later : first_fault graph rest ≡ None

pub fits : (graph : List Node) (found : Option Node) (rest : List (List ℕ)) → or_fault (parents_fault found) (first_fault graph rest) ≡ None
    → Fits graph found rest
fits graph found rest e = at (parents_fault found) refl e
  where
    at : (fault : Option PlanFault) → parents_fault found ≡ fault → or_fault fault (first_fault graph rest) ≡ None → Fits graph found rest
    at None is e = record { here = is; later = e }
    at (Some fault) is e = absurd cc

-- ---- the lines of one commit

no_reset : (base : List ℕ) (numbers : Numbers) (place first : List ℕ) → revs_of (reset_lines base numbers place first) ≡ []
no_reset base numbers place first = at (is_apart place first)
  where
    at : (t : Bool) → revs_of (cond t (Reset (name_of base numbers first) [] ∷ []) []) ≡ []
    at true = refl
    at false = refl

no_label : (wanted : Bool) (number : ℕ) → revs_of (label_lines wanted number) ≡ []
no_label true number = refl
no_label false number = refl

on_parents : (base : List ℕ) (numbers : Numbers) (place : List ℕ) (node : Node) (parents : List (List ℕ))
    → cond (length parents == 0) (Some (NewRoot node.id)) (cond (nat_lt 2 (length parents)) (Some (Octopus node.id)) None) ≡ None
    → revs_of (lines_on base numbers place node parents) ≡ encode_lower node.id ∷ []
on_parents base numbers place node [] e = absurd cc
on_parents base numbers place node (first ∷ []) e =
    revs_both (reset_lines base numbers place first) (pick_of node ∷ [])
    ∙ ap (λ (rs : List (List ℕ)). rs ++ encode_lower node.id ∷ []) (no_reset base numbers place first)
on_parents base numbers place node (first ∷ second ∷ others) e =
    revs_both (reset_lines base numbers place first) (merge_of base numbers node second ∷ [])
    ∙ ap (λ (rs : List (List ℕ)). rs ++ encode_lower node.id ∷ []) (no_reset base numbers place first)

of_commit : (graph : List Node) (base : List ℕ) (numbers : Numbers) (place id : List ℕ) → has graph id ≡ true
    → parents_fault (node_at graph id) ≡ None → revs_of (commit_lines base numbers place (node_at graph id)) ≡ encode_lower id ∷ []
of_commit graph base numbers place id there fit = at (node_at graph id) refl (has_node graph id ∙ there) fit
  where
    at : (found : Option Node) → node_at graph id ≡ found → is_some found ≡ true → parents_fault found ≡ None
        → revs_of (commit_lines base numbers place found) ≡ encode_lower id ∷ []
    at None is some fit = absurd cc
    at (Some node) is some fit =
        on_parents base numbers place node node.parents fit ∙ ap (λ (i : List ℕ). encode_lower i ∷ []) (found_id graph id node is)

-- ---- the range

range_about : (graph : List Node) (base : List ℕ) (ids : List (List ℕ)) (numbers : Numbers) (count : ℕ) (place : List ℕ) (range : List (List ℕ))
    → first_missing graph range ≡ None → first_fault graph range ≡ None
    → revs_of (range_lines graph base ids numbers count place range) ≡ map encode_lower range
range_about graph base ids numbers count place [] there fit = refl
range_about graph base ids numbers count place (id ∷ rest) there fit =
    let g = goes graph id rest there in
    let f = fits graph (node_at graph id) rest fit in
    let wanted = is_among ids id in
    let own = commit_lines base numbers place (node_at graph id) in
    let more = range_lines graph base ids (numbered wanted (count + 1) id numbers) (counted wanted count) id rest in
    revs_both own (label_lines wanted (count + 1) ++ more)
    ∙ ap (λ (rs : List (List ℕ)). rs ++ revs_of (label_lines wanted (count + 1) ++ more)) (of_commit graph base numbers place id g.there f.here)
    ∙ ap (λ (rs : List (List ℕ)). encode_lower id ∷ rs)
    (revs_both (label_lines wanted (count + 1)) more
    ∙ ap (λ (rs : List (List ℕ)). rs ++ revs_of more) (no_label wanted (count + 1))
    ∙ range_about graph base ids (numbered wanted (count + 1) id numbers) (counted wanted count) id rest g.later f.later)

pub merges_about : (graph : List Node) (base : List ℕ) (range : List (List ℕ)) → first_missing graph range ≡ None → first_fault graph range ≡ None
    → revs_of (merges_todo graph base range) ≡ map encode_lower range
merges_about graph base [] there fit = refl
merges_about graph base (id ∷ rest) there fit = range_about graph base (named graph base (id ∷ rest)) (λ other. None) 0 base (id ∷ rest) there fit
