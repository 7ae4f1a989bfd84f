-- From the first bad byte to the first bad line.
use Rattle.std.proofs.Common.{◌≡◌, ℕ, zero, suc, ◌+◌, ◌<◌, ◌≤◌, ◌⊎◌, inl, inr, Bool, true, false, cond, ◌&&◌, eqb, ltb, List, [], ◌∷◌, ◌++◌, length, take, get_or, refl, sym, ap, subst, append_assoc, arith, add-one}
use Rattle.std.proofs.lemmas.List.{take_all}
use Rattle.std.proofs.lemmas.Bool.{eqb-true, eqb-false, eq-eqb, ne_eqb, ltb-false, ltb-true}
use Rattle.grammar.specs.Grammar.{AllBytes, GoesOn, IsFirstBad}
use Rattle.grammar.specs.Lines.{first_lines, line_of_place, IsFirstBadLine}
use Rattle.grammar.proofs.Laws.{AllBytes-append}
use Rattle.grammar.proofs.Passing.{and_true}

-- how many line feeds there are
abbrev feeds : List ℕ → ℕ
feeds [] = 0
feeds (b ∷ bs) = cond (eqb b 10) (suc (feeds bs)) (feeds bs)

-- a front is a front of what goes on
shorter : {X : Type 0} (spells : X → List ℕ → Type 0) (a b : List ℕ) → AllBytes b → GoesOn spells (a ++ b) → GoesOn spells a
shorter spells a b fits g = (g.0, b ++ g.1, AllBytes-append b g.1 fits g.2, subst (λ (t : List ℕ). spells g.0 t) (append_assoc a b g.1) g.3)

taken : (k : ℕ) (xs : List ℕ) → AllBytes xs → AllBytes (take k xs)
taken zero xs h = tt
taken (suc k) [] h = tt
taken (suc k) (x ∷ xs) h = (h.0, taken k xs h.1)

-- lines before the one of a place lie before the place
before : (bytes : List ℕ) (at n : ℕ) → AllBytes bytes → n ≤ feeds (take at bytes)
    → (rest : List ℕ) × AllBytes rest × (take at bytes ≡ first_lines n bytes ++ rest)
before [] zero n fits le = ([], tt, refl)
before [] (suc at) n fits le = ([], tt, refl)
before (b ∷ bs) zero zero fits le = ([], tt, refl)
before (b ∷ bs) zero (suc n) fits le = absurd (omega arith)
before (b ∷ bs) (suc at) zero fits le = (b ∷ take at bs, (fits.0, taken at bs fits.1), refl)
before (b ∷ bs) (suc at) (suc n) fits le = go (eqb b 10) le (λ h. before bs at n fits.1 h) (λ h. before bs at (suc n) fits.1 h)
  where
    go : (t : Bool) → suc n ≤ cond t (suc (feeds (take at bs))) (feeds (take at bs))
        → (n ≤ feeds (take at bs) → (rest : List ℕ) × AllBytes rest × (take at bs ≡ first_lines n bs ++ rest))
        → (suc n ≤ feeds (take at bs) → (rest : List ℕ) × AllBytes rest × (take at bs ≡ first_lines (suc n) bs ++ rest))
        → (rest : List ℕ) × AllBytes rest × (b ∷ take at bs ≡ cond t (b ∷ first_lines n bs) (b ∷ first_lines (suc n) bs) ++ rest)
    go true le one two = let k = one (omega arith) in (k.0, k.1, ap (λ (t : List ℕ). b ∷ t) k.2)
    go false le one two = let k = two le in (k.0, k.1, ap (λ (t : List ℕ). b ∷ t) k.2)

lines_fit : (n : ℕ) (xs : List ℕ) → AllBytes xs → AllBytes (first_lines n xs)
lines_fit n [] h = tt
lines_fit zero (x ∷ xs) h = tt
lines_fit (suc n) (x ∷ xs) h = one (eqb x 10) (lines_fit n xs h.1) (lines_fit (suc n) xs h.1)
  where
    one : (t : Bool) → AllBytes (first_lines n xs) → AllBytes (first_lines (suc n) xs)
        → AllBytes (cond t (x ∷ first_lines n xs) (x ∷ first_lines (suc n) xs))
    one true p q = (h.0, p)
    one false p q = (h.0, q)

-- the line of a place reaches behind it
reaches : (bytes : List ℕ) (at : ℕ) → AllBytes bytes → at < length bytes
    → (rest : List ℕ) × AllBytes rest × (first_lines (suc (feeds (take at bytes))) bytes ≡ take (suc at) bytes ++ rest)
reaches [] at fits lt = absurd (omega arith)
reaches (b ∷ bs) zero fits lt = go (eqb b 10)
  where
    go : (t : Bool) → (rest : List ℕ) × AllBytes rest × (cond t (b ∷ first_lines 0 bs) (b ∷ first_lines 1 bs) ≡ b ∷ rest)
    go true = (first_lines 0 bs, lines_fit 0 bs fits.1, refl)
    go false = (first_lines 1 bs, lines_fit 1 bs fits.1, refl)
reaches (b ∷ bs) (suc at) fits lt = go (eqb b 10) refl (reaches bs at fits.1 (omega arith))
  where
    go : (t : Bool) → eqb b 10 ≡ t → ((rest : List ℕ) × AllBytes rest × (first_lines (suc (feeds (take at bs))) bs ≡ take (suc at) bs ++ rest))
        → (rest : List ℕ) × AllBytes rest × (first_lines (suc (cond t (suc (feeds (take at bs))) (feeds (take at bs)))) (b ∷ bs) ≡ b ∷ (take (suc at) bs ++ rest))
    go true is k = (k.0, k.1, rw is (ap (λ (t : List ℕ). b ∷ t) k.2))
    go false is k = (k.0, k.1, rw is (ap (λ (t : List ℕ). b ∷ t) k.2))

-- the first lines are a front
lines_front : (n : ℕ) (bytes : List ℕ) → AllBytes bytes → (rest : List ℕ) × AllBytes rest × (bytes ≡ first_lines n bytes ++ rest)
lines_front n [] fits = ([], tt, refl)
lines_front zero (b ∷ bs) fits = (b ∷ bs, fits, refl)
lines_front (suc n) (b ∷ bs) fits = go (eqb b 10) (lines_front n bs fits.1) (lines_front (suc n) bs fits.1)
  where
    go : (t : Bool) → ((rest : List ℕ) × AllBytes rest × (bs ≡ first_lines n bs ++ rest))
        → ((rest : List ℕ) × AllBytes rest × (bs ≡ first_lines (suc n) bs ++ rest))
        → (rest : List ℕ) × AllBytes rest × (b ∷ bs ≡ cond t (b ∷ first_lines n bs) (b ∷ first_lines (suc n) bs) ++ rest)
    go true one two = (one.0, one.1, ap (λ (t : List ℕ). b ∷ t) one.2)
    go false one two = (two.0, two.1, ap (λ (t : List ℕ). b ∷ t) two.2)

-- a line's number, by the line feeds before the place
place_within : (bytes : List ℕ) (at : ℕ) → at < length bytes → line_of_place at bytes ≡ suc (feeds (take at bytes))
place_within [] at lt = absurd (omega arith)
place_within (b ∷ []) zero lt = refl
place_within (b ∷ []) (suc at) lt = absurd (omega arith)
place_within (b ∷ c ∷ bs) zero lt = refl
place_within (b ∷ c ∷ bs) (suc at) lt = go (eqb b 10) (place_within (c ∷ bs) at (omega arith))
  where
    go : (t : Bool) → line_of_place at (c ∷ bs) ≡ suc (feeds (take at (c ∷ bs)))
        → cond t (suc (line_of_place at (c ∷ bs))) (line_of_place at (c ∷ bs)) ≡ suc (cond t (suc (feeds (take at (c ∷ bs)))) (feeds (take at (c ∷ bs))))
    go true e = ap suc e
    go false e = e

within_is_bad : {X : Type 0} (spells : X → List ℕ → Type 0) (bytes : List ℕ) (at : ℕ) → AllBytes bytes → at < length bytes
    → IsFirstBad spells bytes at → IsFirstBadLine spells bytes (suc (feeds (take at bytes)))
within_is_bad spells bytes at fits lt bad = record {
  goes_on = λ n below.
      let k = before bytes at n fits (omega arith) in
      shorter spells (first_lines n bytes) k.0 k.1 (subst (λ (t : List ℕ). GoesOn spells t) k.2 bad.goes_on);
  no_further = inl
      (λ g.
      let k = reaches bytes at fits lt in
      let t : at + 1 ≡ suc at = omega arith in
      bad.no_further lt
      (subst (λ (m : ℕ). GoesOn spells (take m bytes)) (sym t) (shorter spells (take (suc at) bytes) k.0 k.1 (subst (λ (u : List ℕ). GoesOn spells u) k.2 g))));
  no_text = bad.no_text;
}

end_is_bad : {X : Type 0} (spells : X → List ℕ → Type 0) (bytes : List ℕ) → AllBytes bytes → IsFirstBad spells bytes (length bytes)
    → IsFirstBadLine spells bytes (line_of_place (length bytes) bytes)
end_is_bad spells bytes fits bad =
    let whole : GoesOn spells bytes = subst (λ (t : List ℕ). GoesOn spells t) (take_all (length bytes) bytes (omega arith)) bad.goes_on in
    record {
      goes_on = λ n below.
          let k = lines_front n bytes fits in
          shorter spells (first_lines n bytes) k.0 k.1 (subst (λ (t : List ℕ). GoesOn spells t) k.2 whole);
      no_further = inr (whole, refl);
      no_text = bad.no_text;
    }

-- the line of the first bad byte is the first bad line
pub first_bad_line : {X : Type 0} (spells : X → List ℕ → Type 0) (bytes : List ℕ) (at : ℕ) → AllBytes bytes → IsFirstBad spells bytes at
    → IsFirstBadLine spells bytes (line_of_place at bytes)
first_bad_line spells bytes at fits bad = go (at_end (ltb at (length bytes)) refl)
  where
    at_end : (t : Bool) → ltb at (length bytes) ≡ t → (at < length bytes) ⊎ (at ≡ length bytes)
    at_end true is = inl (ltb-true at (length bytes) is)
    at_end false is = let within = bad.within in let high = ltb-false at (length bytes) is in inr (omega arith)

    go : (at < length bytes) ⊎ (at ≡ length bytes) → IsFirstBadLine spells bytes (line_of_place at bytes)
    go (inl lt) = subst (λ (n : ℕ). IsFirstBadLine spells bytes n) (sym (place_within bytes at lt)) (within_is_bad spells bytes at fits lt bad)
    go (inr e) =
        subst (λ (k : ℕ). IsFirstBadLine spells bytes (line_of_place k bytes)) (sym e) (end_is_bad spells bytes fits (subst (λ (k : ℕ). IsFirstBad spells bytes k) e bad))

-- ---- one byte more

pub place_feed : (bytes : List ℕ) (i : ℕ) → suc i < length bytes → get_or bytes i 0 ≡ 10 → line_of_place (suc i) bytes ≡ suc (line_of_place i bytes)
place_feed [] i lt e = absurd (omega arith)
place_feed (b ∷ []) i lt e = absurd (omega arith)
place_feed (b ∷ c ∷ []) zero lt e = rw (eq-eqb b 10 e) refl
place_feed (b ∷ c ∷ d ∷ bs) zero lt e = rw (eq-eqb b 10 e) refl
place_feed (b ∷ c ∷ bs) (suc i) lt e = go (eqb b 10) (place_feed (c ∷ bs) i (omega arith) e)
  where
    go : (t : Bool) → line_of_place (suc i) (c ∷ bs) ≡ suc (line_of_place i (c ∷ bs))
        → cond t (suc (line_of_place (suc i) (c ∷ bs))) (line_of_place (suc i) (c ∷ bs)) ≡ suc (cond t (suc (line_of_place i (c ∷ bs))) (line_of_place i (c ∷ bs)))
    go true k = ap suc k
    go false k = k

pub place_other : (bytes : List ℕ) (i : ℕ) → (get_or bytes i 0 ≡ 10 → ⊥) → line_of_place (suc i) bytes ≡ line_of_place i bytes
place_other [] i ne = refl
place_other (b ∷ []) i ne = refl
place_other (b ∷ c ∷ []) zero ne = rw (ne_eqb b 10 ne) refl
place_other (b ∷ c ∷ d ∷ bs) zero ne = rw (ne_eqb b 10 ne) refl
place_other (b ∷ c ∷ bs) (suc i) ne = go (eqb b 10) (place_other (c ∷ bs) i ne)
  where
    go : (t : Bool) → line_of_place (suc i) (c ∷ bs) ≡ line_of_place i (c ∷ bs)
        → cond t (suc (line_of_place (suc i) (c ∷ bs))) (line_of_place (suc i) (c ∷ bs)) ≡ cond t (suc (line_of_place i (c ∷ bs))) (line_of_place i (c ∷ bs))
    go true k = ap suc k
    go false k = k

pub place_last : (bytes : List ℕ) (i : ℕ) → length bytes ≤ suc i → line_of_place (suc i) bytes ≡ line_of_place i bytes
place_last [] i le = refl
place_last (b ∷ []) i le = refl
place_last (b ∷ c ∷ bs) zero le = absurd (omega arith)
place_last (b ∷ c ∷ bs) (suc i) le = go (eqb b 10) (place_last (c ∷ bs) i (omega arith))
  where
    go : (t : Bool) → line_of_place (suc i) (c ∷ bs) ≡ line_of_place i (c ∷ bs)
        → cond t (suc (line_of_place (suc i) (c ∷ bs))) (line_of_place (suc i) (c ∷ bs)) ≡ cond t (suc (line_of_place i (c ∷ bs))) (line_of_place i (c ∷ bs))
    go true k = ap suc k
    go false k = k

pub place_none : (bytes : List ℕ) → line_of_place 0 bytes ≡ 1
place_none [] = refl
place_none (b ∷ []) = refl
place_none (b ∷ c ∷ bs) = refl

pub place_on : (bytes : List ℕ) (i : ℕ) → (ltb (i + 1) (length bytes) && eqb (get_or bytes i 0) 10) ≡ true
    → line_of_place (i + 1) bytes ≡ line_of_place i bytes + 1
place_on bytes i on =
    let k = and_true (ltb (i + 1) (length bytes)) (eqb (get_or bytes i 0) 10) on in
    let lt = ltb-true (i + 1) (length bytes) k.0 in
    rw (add-one, add-one) (place_feed bytes i (omega arith) (eqb-true (get_or bytes i 0) 10 k.1))

pub place_off : (bytes : List ℕ) (i : ℕ) → (ltb (i + 1) (length bytes) && eqb (get_or bytes i 0) 10) ≡ false
    → line_of_place (i + 1) bytes ≡ line_of_place i bytes
place_off bytes i off = rw add-one (at (ltb (i + 1) (length bytes)) (eqb (get_or bytes i 0) 10) refl refl off)
  where
    at : (t u : Bool) → ltb (i + 1) (length bytes) ≡ t → eqb (get_or bytes i 0) 10 ≡ u → (t && u) ≡ false
        → line_of_place (suc i) bytes ≡ line_of_place i bytes
    at true true t-is u-is off = absurd cc
    at true false t-is u-is off = place_other bytes i (eqb-false (get_or bytes i 0) 10 u-is)
    at false u t-is u-is off = let le = ltb-false (i + 1) (length bytes) t-is in place_last bytes i (omega arith)
