-- What a merge takes, one path after another.
use Rattle.std.proofs.Common.{◌≡◌, ℕ, Bool, true, false, List, [], ◌∷◌, ◌++◌, Option, Some, None, refl, sym, ap, ◌∙◌, append_assoc}
use Rattle.std.specs.Option.{option_map}
use Rattle.std.specs.List.{AllByRecursion, cons_option, filter_map}
use Rattle.seq_base.specs.declared.map.Entry.{Entry}
use Rattle.seq_base.specs.PathMaps.{IsAscending, is_less}
use Rattle.tree_merge.specs.declared.plans.Planned.{Planned}
use Rattle.tree_merge.specs.Choosing.{choice}
use Rattle.tree_merge.specs.Plans.{Entries, paths_of}
use Rattle.tree_merge.specs.Results.{HasNoClash, conflict_in, is_taken, result_of, taken, taken_at}
use Rattle.tree_merge.specs.Walks.{after, head_entry}
use Rattle.tree_merge.proofs.InOrder.{Ascends, ascends_paths}
use Rattle.tree_merge.proofs.Steps.{Stepped, entry_after}

-- what is taken at a path stands before the rest
abbrev pub with_taken : List ℕ → Option Entry → Entries → Entries
with_taken p e rest = cons_option (option_map (λ (x : Entry). (p, x)) e) rest

abbrev pub all_taken : (List ℕ → Option Entry) → List (List ℕ) → Entries
all_taken f ps = filter_map (λ p. option_map (λ e. (p, e)) (f p)) ps

taken_after : (b o t : Entries) (p : List ℕ) (ps : List (List ℕ)) → AllByRecursion (λ q. is_less p q ≡ true) ps
    → all_taken (taken_at b o t) ps ≡ all_taken (taken_at (after b p) (after o p) (after t p)) ps
taken_after b o t p [] h = refl
taken_after b o t p (q ∷ ps) h =
    let rest = taken_after b o t p ps h.1 in
    λ i. with_taken q (taken (choice (entry_after p q b h.0 i) (entry_after p q o h.0 i) (entry_after p q t h.0 i))) (rest i)

-- one step of the walk takes what is taken at its path
pub result_step : (b o t : Entries) (p : List ℕ) → Stepped b o t p
    → result_of b o t ≡ with_taken p (taken (choice (head_entry b p) (head_entry o p) (head_entry t p))) (result_of (after b p) (after o p) (after t p))
result_step b o t p s =
    ap (all_taken (taken_at b o t)) s.paths
    ∙ ap (with_taken p (taken_at b o t p)) (taken_after b o t p (paths_of (after b p ++ after o p ++ after t p)) s.behind)
    ∙ (λ i. with_taken p (taken (choice (s.base i) (s.ours i) (s.theirs i))) (result_of (after b p) (after o p) (after t p)))

-- an entry is taken next
pub one_taken : (entries rest left all : Entries) (p : List ℕ) (v : Option Entry) (e : Entry) → entries ++ left ≡ all → left ≡ with_taken p v rest
    → v ≡ Some e → entries ++ (p, e) ∷ [] ++ rest ≡ all
one_taken entries rest left all p v e is next here =
    let n : left ≡ (p, e) ∷ rest = next ∙ ap (λ (w : Option Entry). with_taken p w rest) here in
    append_assoc entries ((p, e) ∷ []) rest ∙ ap (λ (l : Entries). entries ++ l) (sym n) ∙ is

pub none_taken : (entries rest left all : Entries) (p : List ℕ) (v : Option Entry) → entries ++ left ≡ all → left ≡ with_taken p v rest → v ≡ None
    → entries ++ rest ≡ all
none_taken entries rest left all p v is next here =
    let n : left ≡ rest = next ∙ ap (λ (w : Option Entry). with_taken p w rest) here in
    ap (λ (l : Entries). entries ++ l) (sym n) ∙ is

module _ (f : List ℕ → Option Entry) where
  behind_taken : (p : List ℕ) (ps : List (List ℕ)) → AllByRecursion (λ q. is_less p q ≡ true) ps
      → AllByRecursion (λ d. is_less p d.0 ≡ true) (all_taken f ps)
  behind_taken p [] h = tt
  behind_taken p (q ∷ ps) h = at (f q) (behind_taken p ps h.1)
    where
      at : (v : Option Entry) → AllByRecursion (λ d. is_less p d.0 ≡ true) (all_taken f ps)
          → AllByRecursion (λ d. is_less p d.0 ≡ true) (with_taken q v (all_taken f ps))
      at None rest = rest
      at (Some e) rest = (h.0, rest)

  ascending_taken : (ps : List (List ℕ)) → Ascends ps → IsAscending (all_taken f ps)
  ascending_taken [] h = tt
  ascending_taken (p ∷ ps) h = at (f p) (ascending_taken ps h.1)
    where
      at : (v : Option Entry) → IsAscending (all_taken f ps) → IsAscending (with_taken p v (all_taken f ps))
      at None rest = rest
      at (Some e) rest = (behind_taken p ps h.0, rest)

-- the result of a merge is in order
pub result_ascending : (b o t : Entries) → IsAscending (result_of b o t)
result_ascending b o t = ascending_taken (taken_at b o t) (paths_of (b ++ o ++ t)) (ascends_paths (b ++ o ++ t))

-- where no path conflicts, none clashes
pub no_clash : (rows : List Planned) → conflict_in rows ≡ None → HasNoClash rows
no_clash [] h = tt
no_clash (r ∷ rows) h = at (no_clash rows) r.clash refl (is_taken r.choice) refl
  where
    at : (conflict_in rows ≡ None → HasNoClash rows) → (x : Bool) → r.clash ≡ x → (y : Bool) → is_taken r.choice ≡ y → HasNoClash (r ∷ rows)
    at rest true e y g = let k : conflict_in (r ∷ rows) ≡ Some r.path = rw e refl in absurd cc
    at rest false e true g = let k : conflict_in (r ∷ rows) ≡ conflict_in rows = rw (e, g) refl in (e, rest (sym k ∙ h))
    at rest false e false g = let k : conflict_in (r ∷ rows) ≡ Some r.path = rw (e, g) refl in absurd cc
