-- Marks set one after another.
use Rattle.std.proofs.Common.{◌≡◌, ◌≢◌, ℕ, zero, suc, ◌+◌, ◌<◌, Bool, true, false, ◌||◌, eqb, List, [], ◌∷◌, ◌++◌, length, take, drop, get_or, refl, sym, ap, ◌∙◌, arith}
use Rattle.std.specs.Prelude.{map, replicate}
use Rattle.std.specs.List.{list_any}
use Rattle.std.proofs.Math.ListN.{set}
use Rattle.std.proofs.lemmas.Bool.Decides.{Decides-eqb}
use Rattle.std.proofs.lemmas.List.{get_or-set_same, get_or-set_other}
use Rattle.std.proofs.lemmas.List.Folds.{list_any_more}
use Rattle.tree_merge.specs.declared.plans.Planned.{Planned}
use Rattle.tree_merge.specs.Plans.{is_under, is_upper}

pub all_false : (n k : ℕ) → get_or (replicate n false) k false ≡ false
all_false zero k = refl
all_false (suc n) zero = refl
all_false (suc n) (suc k) = all_false n k

pub upper_more : (rows : List Planned) (uppers : List Bool) (found : Bool) (i : ℕ) → i < length uppers
    → ((d : Planned) → found ≡ is_upper rows (get_or rows i d))
    → ((k : ℕ) (d : Planned) → k < i → get_or uppers k false ≡ is_upper rows (get_or rows k d)) → (k : ℕ) (d : Planned) → k < i + 1 → get_or (set uppers i found) k false ≡ is_upper rows (get_or rows k d)
upper_more rows uppers found i within here before k d l =
    elim (eqb k i) as (λ t. eqb k i ≡ t → get_or (set uppers i found) k false ≡ is_upper rows (get_or rows k d)) [
      | true ↦ λ e.
          let same = (Decides-eqb k i).0 e in
          ap (λ (j : ℕ). get_or (set uppers i found) j false) same ∙ get_or-set_same uppers i found false within ∙ here d ∙ ap (λ (j : ℕ). is_upper rows (get_or rows j d)) (sym same)
      | false ↦ λ e.
          let ne : k ≢ i = (λ q. let o = (Decides-eqb k i).1 q in cc) in
          get_or-set_other uppers i k found false ne ∙ before k d (omega (arith, ne))
    ] refl

pub lower_more : (rows : List Planned) (old new : List Bool) (i : ℕ) → i < length rows
    → ((k : ℕ) (d : Planned) → k < length rows → get_or new k false ≡ (get_or old k false || is_under (get_or rows i d) (get_or rows k d)))
    → ((k : ℕ) (d : Planned) → k < length rows → get_or old k false ≡ list_any (λ s. is_under s (get_or rows k d)) (take i rows))
    → (k : ℕ) (d : Planned) → k < length rows → get_or new k false ≡ list_any (λ s. is_under s (get_or rows k d)) (take (i + 1) rows)
lower_more rows old new i within adds was k d l =
    adds k d l ∙ ap (λ (b : Bool). b || is_under (get_or rows i d) (get_or rows k d)) (was k d l) ∙ sym (list_any_more (λ (s : Planned). is_under s (get_or rows k d)) rows i d within)

pub mapped_more : (f : Planned → Planned) (all rows : List Planned) (i : ℕ) (v d : Planned) → rows ≡ map f (take i all) ++ drop i all → i < length all
    → v ≡ f (get_or all i d) → set rows i v ≡ map f (take (i + 1) all) ++ drop (i + 1) all
mapped_more f all rows i v d is within made = ap (λ (r : List Planned). set r i v) is ∙ at all i within made
  where
    at : (all : List Planned) (i : ℕ) → i < length all → v ≡ f (get_or all i d)
        → set (map f (take i all) ++ drop i all) i v ≡ map f (take (i + 1) all) ++ drop (i + 1) all
    at [] i l e = absurd (omega arith)
    at (x ∷ all) zero l e = ap (λ (y : Planned). y ∷ all) e
    at (x ∷ all) (suc i) l e = let k : suc i + 1 ≡ suc (i + 1) = omega arith in rw k (ap (λ (r : List Planned). f x ∷ r) (at all i (omega arith) e))

-- what stands at i has not been touched
pub untouched : (f : Planned → Planned) (all rows : List Planned) (i : ℕ) (d : Planned) → rows ≡ map f (take i all) ++ drop i all → i < length all
    → get_or rows i d ≡ get_or all i d
untouched f all rows i d is within = ap (λ (r : List Planned). get_or r i d) is ∙ at all i within
  where
    at : (all : List Planned) (i : ℕ) → i < length all → get_or (map f (take i all) ++ drop i all) i d ≡ get_or all i d
    at [] i l = absurd (omega arith)
    at (x ∷ all) zero l = refl
    at (x ∷ all) (suc i) l = at all i (omega arith)
