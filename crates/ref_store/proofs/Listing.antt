-- The names of the refs below a folder.
use Rattle.std.proofs.Common.{◌≡◌, ◌++◌, ℕ, Bool, true, false, cond, List, [], ◌∷◌, length, refl, sym, ap, subst, ◌∙◌, append_assoc, arith}
use Rattle.std.specs.Prelude.{drop, filter, map}
use Rattle.std.specs.List.{AllByRecursion}
use Rattle.std.proofs.lemmas.List.{append-nil}
use Rattle.seq_base.specs.RefNames.{IsRefName}
use Rattle.ref_store.specs.Lists.{is_named}

-- one more is kept, or none
pub one_more_kept : (names : List (List ℕ)) (name : List ℕ) (rest : List (List ℕ))
    → (names ++ filter is_named (name ∷ [])) ++ filter is_named rest ≡ names ++ filter is_named (name ∷ rest)
one_more_kept names name rest = at (is_named name)
  where
    at : (b : Bool) → (names ++ cond b (name ∷ []) []) ++ filter is_named rest ≡ names ++ cond b (name ∷ filter is_named rest) (filter is_named rest)
    at true = append_assoc names (name ∷ []) (filter is_named rest)
    at false = ap (λ (l : List (List ℕ)). l ++ filter is_named rest) (append-nil names)

named : (name : List ℕ) → is_named name ≡ true → IsRefName name
unfolding is_named
named name is = is

-- those that are kept are names of refs
pub kept_are_names : (names : List (List ℕ)) → AllByRecursion IsRefName (filter is_named names)
kept_are_names [] = tt
kept_are_names (name ∷ names) = at (kept_are_names names) (is_named name) refl
  where
    at : AllByRecursion IsRefName (filter is_named names) → (b : Bool) → is_named name ≡ b
        → AllByRecursion IsRefName (cond b (name ∷ filter is_named names) (filter is_named names))
    at others true is = (named name is, others)
    at others false is = others

-- where none is left, all were kept
pub all_were_kept : (names rest paths : List (List ℕ)) → length rest ≡ 0
    → names ++ filter is_named (map (drop 5) rest) ≡ filter is_named (map (drop 5) paths) → AllByRecursion IsRefName names
all_were_kept names [] paths none e = subst (AllByRecursion IsRefName) (sym (sym (append-nil names) ∙ e)) (kept_are_names (map (drop 5) paths))
all_were_kept names (path ∷ rest) paths none e = absurd (omega (arith, none))
