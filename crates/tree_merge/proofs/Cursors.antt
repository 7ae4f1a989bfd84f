-- What is left of a list, from a place on.
use Rattle.std.proofs.Common.{◌≡◌, Bool, true, false, not, ℕ, zero, suc, ◌+◌, ◌<◌, List, [], ◌∷◌, length, drop, Some, refl, ap, arith}
use Rattle.std.specs.Prelude.{slice_get}

pub head_at : {X : Type 0} (xs : List X) (n : ℕ) (x : X) → slice_get xs n ≡ Some x → drop n xs ≡ x ∷ drop (n + 1) xs
head_at [] n x e = absurd cc
head_at (y ∷ xs) zero x e = let k : y ≡ x = cc in ap (λ (z : _). z ∷ xs) k
head_at (y ∷ xs) (suc n) x e = let k : suc n + 1 ≡ suc (n + 1) = omega arith in rw k (head_at xs n x e)

pub at_within : {X : Type 0} (xs : List X) (n : ℕ) (x : X) → slice_get xs n ≡ Some x → n < length xs
at_within [] n x e = absurd cc
at_within (y ∷ xs) zero x e = omega arith
at_within (y ∷ xs) (suc n) x e = let k = at_within xs n x e in omega (arith, k)

pub when_not_false : (b : Bool) → false ≡ not b → b ≡ true
when_not_false true e = refl
when_not_false false e = absurd cc

pub when_not_true : (b : Bool) → true ≡ not b → b ≡ false
when_not_true true e = absurd cc
when_not_true false e = refl
