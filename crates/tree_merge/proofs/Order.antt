-- The byte order of paths.
use Rattle.std.proofs.Common.{◌≡◌, ℕ, Bool, true, false, List, Ordering, refl, sym, ap, ◌∙◌}
use Rattle.std.specs.Ordering.{nat_cmp, is_lt, is_eq, ordering_reverse}
use Rattle.std.specs.declared.cmp.Ordering.TheVariants.{Less, Equal, Greater}
use Rattle.std.specs.Cmp.Lexicographic.{slice_cmp}
use Rattle.std.specs.Str.{bytes_eq}
use Rattle.std.proofs.lemmas.Cmp.{nat_list_cmp_total}
use Rattle.std.proofs.lemmas.Map.Text.{is_eq-slice_cmp}
use Rattle.std.proofs.lemmas.Slice.Eq.{bytes_eq-Decides}
use Rattle.seq_base.specs.PathMaps.{is_less}

less_is : (a b : List ℕ) → is_less a b ≡ true → slice_cmp nat_cmp a b ≡ Less
less_is a b e = at (slice_cmp nat_cmp a b) e
  where
    at : (o : Ordering) → is_lt o ≡ true → o ≡ Less
    at Less e = refl
    at Equal e = absurd cc
    at Greater e = absurd cc

pub less_trans : (a b c : List ℕ) → is_less a b ≡ true → is_less b c ≡ true → is_less a c ≡ true
less_trans a b c p q = ap is_lt (nat_list_cmp_total.trans a b c (less_is a b p) (less_is b c q))

-- a path is before another, the same, or behind it
pub otherwise_less : (a b : List ℕ) → bytes_eq a b ≡ false → is_less b a ≡ false → is_less a b ≡ true
otherwise_less a b ne nl = at (slice_cmp nat_cmp a b) refl
  where
    at : (o : Ordering) → slice_cmp nat_cmp a b ≡ o → is_lt o ≡ true
    at Less e = refl
    at Equal e = let k = sym (is_eq-slice_cmp a b) ∙ ap is_eq e in absurd cc
    at Greater e = let k = ap is_lt (nat_list_cmp_total.antisymm b a ∙ ap ordering_reverse e) in absurd cc

pub not_both_less : (a b : List ℕ) → is_less a b ≡ true → is_less b a ≡ false
not_both_less a b p = ap is_lt (nat_list_cmp_total.antisymm b a ∙ ap ordering_reverse (less_is a b p))

pub less_apart : (a b : List ℕ) → is_less a b ≡ true → bytes_eq a b ≡ false
less_apart a b p = sym (is_eq-slice_cmp a b) ∙ ap is_eq (less_is a b p)

pub same_swap : (a b : List ℕ) → bytes_eq a b ≡ bytes_eq b a
same_swap a b = at (bytes_eq a b) refl (bytes_eq b a) refl
  where
    at : (p : Bool) → bytes_eq a b ≡ p → (q : Bool) → bytes_eq b a ≡ q → p ≡ q
    at true p true q = refl
    at false p false q = refl
    at true p false q = let k = (bytes_eq-Decides b a).1 (sym ((bytes_eq-Decides a b).0 p)) in absurd cc
    at false p true q = let k = (bytes_eq-Decides a b).1 (sym ((bytes_eq-Decides b a).0 q)) in absurd cc

pub same_is : (a b : List ℕ) → bytes_eq a b ≡ true → a ≡ b
same_is a b e = (bytes_eq-Decides a b).0 e

pub same_self : (a : List ℕ) → bytes_eq a a ≡ true
same_self a = (bytes_eq-Decides a a).1 refl

-- nothing is between a path that is not behind and one that is before
pub less_or_same : (p a b : List ℕ) → is_less a p ≡ false → is_less a b ≡ true → is_less p b ≡ true
less_or_same p a b nl l = at (bytes_eq p a) refl
  where
    at : (t : Bool) → bytes_eq p a ≡ t → is_less p b ≡ true
    at true e = rw (same_is p a e) l
    at false e = less_trans p a b (otherwise_less p a e nl) l
