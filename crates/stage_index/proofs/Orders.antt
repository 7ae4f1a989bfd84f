-- The byte order of paths.
use Rattle.std.proofs.Common.{◌≡◌, true, false, List, ℕ, Ordering, refl, sym, ap, ◌∙◌}
use Rattle.std.proofs.lemmas.Bool.{both_ways, false_from_ne_true}
use Rattle.std.proofs.lemmas.Map.Text.{is_eq-slice_cmp}
use Rattle.std.proofs.lemmas.Slice.Eq.{bytes_eq-Decides}
use Rattle.std.specs.Cmp.Lexicographic.{nat_list_cmp_total, slice_cmp}
use Rattle.std.specs.Ordering.{nat_cmp, is_eq, is_lt, ordering_reverse}
use Rattle.std.specs.Str.{bytes_eq}
use Rattle.std.specs.declared.cmp.Ordering.TheVariants.{Less, Equal, Greater}
use Rattle.seq_base.specs.PathMaps.{is_less}

less_is : (o : Ordering) → is_lt o ≡ true → o ≡ Less
less_is Less h = refl
less_is Equal h = absurd cc
less_is Greater h = absurd cc

pub less_from : (p q : List ℕ) → is_less p q ≡ true → slice_cmp nat_cmp p q ≡ Less
less_from p q h = less_is (slice_cmp nat_cmp p q) h

pub same_path : (p : List ℕ) → bytes_eq p p ≡ true
same_path p = (bytes_eq-Decides p p).1 refl

pub less_back : (p q : List ℕ) → is_less p q ≡ true → is_less q p ≡ false
less_back p q h = ap is_lt (nat_list_cmp_total.antisymm q p ∙ ap ordering_reverse (less_from p q h))

pub not_less_itself : (p : List ℕ) → is_less p p ≡ false
not_less_itself p = false_from_ne_true (is_less p p) (λ h. both_ways (is_less p p) (less_back p p h) h)

pub less_apart : (p q : List ℕ) → is_less p q ≡ true → bytes_eq q p ≡ false
less_apart p q h = false_from_ne_true (bytes_eq q p) (λ same.
    let e : q ≡ p = (bytes_eq-Decides q p).0 same in
    both_ways (is_less p p) (not_less_itself p) (sym (ap (is_less p) e) ∙ h))

pub less_chain : (p q r : List ℕ) → is_less p q ≡ true → is_less q r ≡ true → is_less p r ≡ true
less_chain p q r h k = ap is_lt (nat_list_cmp_total.trans p q r (less_from p q h) (less_from q r k))

-- of two paths that differ one is less
pub less_otherwise : (p q : List ℕ) → bytes_eq p q ≡ false → is_less q p ≡ false → is_less p q ≡ true
less_otherwise p q apart more = at (slice_cmp nat_cmp p q) refl
  where
    at : (o : Ordering) → slice_cmp nat_cmp p q ≡ o → is_less p q ≡ true
    at Less e = ap is_lt e
    at Equal e = absurd (both_ways (bytes_eq p q) apart (sym (is_eq-slice_cmp p q) ∙ ap is_eq e))
    at Greater e = absurd (both_ways (is_less q p) more (ap is_lt (nat_list_cmp_total.antisymm q p ∙ ap ordering_reverse e)))

pub more_apart : (p q : List ℕ) → is_less p q ≡ true → bytes_eq p q ≡ false
more_apart p q h = false_from_ne_true (bytes_eq p q) (λ same.
    let e : p ≡ q = (bytes_eq-Decides p q).0 same in
    both_ways (is_less p p) (not_less_itself p) (ap (is_less p) e ∙ h))
