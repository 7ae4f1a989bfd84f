-- A path below another goes on behind it with a slash.
use Rattle.std.proofs.Common.{◌≡◌, ℕ, ◌==◌, ◌&&◌, true, nat_eq, List, [], ◌∷◌, ◌++◌, length, take, slice_index, refl, ap}
use Rattle.std.proofs.lemmas.Bool.{and_parts, and_from, eqb-true, eq-eqb}
use Rattle.std.specs.Cmp.Lexicographic.{pointwise}
use Rattle.seq_base.specs.World.{is_below}

pub behind : (f p : List ℕ) → is_below f p ≡ true → (rest : List ℕ) × (p ≡ f ++ 47 ∷ rest)
behind [] [] h = absurd cc
behind [] (b ∷ p) h = (p, ap (λ (c : ℕ). c ∷ p) (eqb-true b 47 h))
behind (x ∷ f) [] h = absurd cc
behind (x ∷ f) (b ∷ p) h =
    let outer = and_parts (nat_eq x b && pointwise nat_eq f (take (length f) p)) (slice_index p (length f) == 47) h in
    let inner = and_parts (nat_eq x b) (pointwise nat_eq f (take (length f) p)) outer.0 in
    let later = behind f p (and_from (pointwise nat_eq f (take (length f) p)) (slice_index p (length f) == 47) inner.1 outer.1) in
    let first : x ≡ b = eqb-true x b inner.0 in
    let rest_is = later.1 in
    (later.0, cc)

pub below : (f rest : List ℕ) → is_below f (f ++ 47 ∷ rest) ≡ true
below [] rest = refl
below (x ∷ f) rest =
    let later = and_parts (pointwise nat_eq f (take (length f) (f ++ 47 ∷ rest))) (slice_index (f ++ 47 ∷ rest) (length f) == 47) (below f rest) in
    and_from (nat_eq x x && pointwise nat_eq f (take (length f) (f ++ 47 ∷ rest))) (slice_index (f ++ 47 ∷ rest) (length f) == 47)
    (and_from (nat_eq x x) (pointwise nat_eq f (take (length f) (f ++ 47 ∷ rest))) (eq-eqb x x refl) later.0) later.1

pub below_at : (f p : List ℕ) → (rest : List ℕ) × (p ≡ f ++ 47 ∷ rest) → is_below f p ≡ true
below_at f p h = rw h.1 (below f h.0)
