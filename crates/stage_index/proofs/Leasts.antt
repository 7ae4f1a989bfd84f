-- Where the least of some paths stands.
use Rattle.std.proofs.Common.{◌≡◌, ℕ, Bool, true, false, not, List, [], ◌∷◌, ◌++◌, Some, refl}
use Rattle.std.specs.Prelude.{find}
use Rattle.std.specs.List.{AllByRecursion}
use Rattle.std.proofs.lemmas.Bool.{and_from, and_left, and_right, not_from_false, not_from_true}
use Rattle.seq_base.specs.PathMaps.{is_less}
use Rattle.stage_index.specs.Least.{is_least, least}

none_before : (p : List ℕ) (qs : List (List ℕ)) → AllByRecursion (λ q. is_less q p ≡ false) qs → is_least qs p ≡ true
none_before p [] h = refl
none_before p (q ∷ qs) h = and_from (not (is_less q p)) (is_least qs p) (not_from_false (is_less q p) h.0) (none_before p qs h.1)

one_before : (p q : List ℕ) (front rest : List (List ℕ)) → is_less p q ≡ true → is_least (front ++ p ∷ rest) q ≡ false
one_before p q [] rest h = and_left (not (is_less p q)) (is_least rest q) (not_from_true (is_less p q) h)
one_before p q (f ∷ front) rest h = and_right (not (is_less f q)) (is_least (front ++ p ∷ rest) q) (one_before p q front rest h)

found : (test : List ℕ → Bool) (front rest : List (List ℕ)) (p : List ℕ) → AllByRecursion (λ q. test q ≡ false) front → test p ≡ true
    → find test (front ++ p ∷ rest) ≡ Some p
found test [] rest p h is = rw is refl
found test (q ∷ front) rest p h is = rw h.0 (found test front rest p h.1 is)

fail_all : (p : List ℕ) (front rest qs : List (List ℕ)) → AllByRecursion (λ q. is_less p q ≡ true) qs
    → AllByRecursion (λ q. is_least (front ++ p ∷ rest) q ≡ false) qs
fail_all p front rest [] h = tt
fail_all p front rest (q ∷ qs) h = (one_before p q front rest h.0, fail_all p front rest qs h.1)

-- those in front of it are greater, and none of all is less
pub least_at : (front rest : List (List ℕ)) (p : List ℕ) → AllByRecursion (λ q. is_less p q ≡ true) front
    → AllByRecursion (λ q. is_less q p ≡ false) (front ++ p ∷ rest) → least (front ++ p ∷ rest) ≡ Some p
least_at front rest p greater none =
    found (is_least (front ++ p ∷ rest)) front rest p (fail_all p front rest front greater) (none_before p (front ++ p ∷ rest) none)
