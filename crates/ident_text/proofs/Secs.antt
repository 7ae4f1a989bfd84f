-- The seconds of an ident are a word: a number in its one spelling, within 64 bits with a sign.
use Rattle.std.proofs.Common.{◌≡◌, ℕ, zero, suc, ◌-◌, ◌^◌, ◌<◌, ◌≤◌, ◌⊎◌, inl, inr, Bool, true, false, cond, not, ◌&&◌, ◌||◌, eqb, leb, List, [], ◌∷◌, ◌++◌, length, take, get_or, Option, Some, None, refl, sym, ap, subst, ◌∙◌, append_assoc, arith, rules, ℤ, pos, FitsSigned}
use Rattle.std.specs.Prelude.{negsuc, decimal}
use Rattle.std.specs.Int.{w64}
use Rattle.std.specs.Fmt.{signed_decimal}
use Rattle.std.specs.Char.{is_ascii_digit}
use Rattle.std.specs.List.{list_all}
use Rattle.std.specs.Str.Parse.{digits_value}
use Rattle.std.proofs.lemmas.List.{append-nil, take_at}
use Rattle.std.proofs.lemmas.Bool.{eqb-true, eqb-false, eq-eqb, ne_eqb, leb-true, leb-false, le-leb, lt-leb}
use Rattle.std.proofs.lemmas.Str.Parse.{digits_value-take-le, IsNumeralModel, numerals_by_value}
use Rattle.std.proofs.lemmas.Fmt.{decimal-digits_value, digits_value-decimal, digits_decimal, decimal_nonempty, first_decimal, decimal_digit}
use Rattle.grammar.specs.Grammar.{AllBytes}
use Rattle.grammar.specs.Decimals.{is_decimal_front, capped}
use Rattle.grammar.specs.Readers.{IsWord}
use Rattle.grammar.proofs.Passing.{and_true}
use Rattle.grammar.proofs.DecimalLaws.{decimal_front, all_digits}
use Rattle.ident_text.specs.ReadIdents.{is_zero_first, is_secs_front, number_of, secs_value}

pub both_true : (a b : Bool) → a ≡ true → b ≡ true → (a && b) ≡ true
both_true a b p q = rw (p, q) refl

-- what an option that is asked for first tells
pub asked : {X : Type 0} (t : Bool) (o : Option X) (y : X) → cond t o None ≡ Some y → (t ≡ true) × (o ≡ Some y)
asked true o y e = (refl, e)
asked false o y e = absurd cc

pub some_is : {X : Type 0} (x y : X) → Some x ≡ Some y → x ≡ y
some_is x y e = cc

-- a byte of which a test tells is none that it refuses
pub not_this : (test : ℕ → Bool) (b c : ℕ) → test b ≡ true → test c ≡ false → b ≡ c → ⊥
not_this test b c on off e = let same = ap test e in cc

own : IsNumeralModel (λ ds. list_all is_ascii_digit ds ≡ true) (digits_value 10)
own = numerals_by_value (λ ds. list_all is_ascii_digit ds ≡ true) (search rules)

-- ---- the front of a number

value_le : (front back : List ℕ) (b : ℕ) → digits_value 10 (front ++ b ∷ []) ≤ digits_value 10 (front ++ b ∷ back)
value_le front back b =
    let cut : take (length (front ++ b ∷ [])) (front ++ b ∷ back) ≡ front ++ b ∷ [] = ap (take (length (front ++ b ∷ []))) (sym (append_assoc front (b ∷ []) back)) ∙ take_at (front ++ b ∷ []) back (length (front ++ b ∷ [])) refl in
    subst (λ (t : List ℕ). digits_value 10 t ≤ digits_value 10 (front ++ b ∷ back)) cut (digits_value-take-le 10 (front ++ b ∷ back) (length (front ++ b ∷ [])) (omega arith))

within_front : (most : ℕ) (front back : List ℕ) (b : ℕ) → is_decimal_front (front ++ b ∷ back) ≡ true
    → leb (digits_value 10 (front ++ b ∷ back)) most ≡ true
    → (is_decimal_front (front ++ b ∷ []) ≡ true) × (leb (digits_value 10 (front ++ b ∷ [])) most ≡ true) × (is_ascii_digit b ≡ true)
within_front most front back b digits fits =
    let k = decimal_front front back b digits in
    let le = leb-true (digits_value 10 (front ++ b ∷ back)) most fits in
    let less = value_le front back b in
    (k.0, le-leb (digits_value 10 (front ++ b ∷ [])) most (omega arith), k.1)

zero_first : (front back : List ℕ) (b : ℕ) → is_zero_first (front ++ b ∷ back) ≡ is_zero_first (front ++ b ∷ [])
zero_first [] back b = refl
zero_first (c ∷ front) back b = refl

secs_front : (front back : List ℕ) (b : ℕ) → is_secs_front (front ++ b ∷ back) ≡ true → (is_secs_front (front ++ b ∷ []) ≡ true) × (b ≡ 32 → ⊥)
secs_front [] back b e = at (eqb b 45) refl e
  where
    at : (t : Bool) → eqb b 45 ≡ t
        → cond t (is_decimal_front back && not (is_zero_first back) && leb (digits_value 10 back) (2 ^ 63)) (is_decimal_front (b ∷ back) && leb (digits_value 10 (b ∷ back)) (2 ^ 63 - 1)) ≡ true
        → (cond t (is_decimal_front [] && not (is_zero_first []) && leb (digits_value 10 []) (2 ^ 63)) (is_decimal_front (b ∷ []) && leb (digits_value 10 (b ∷ [])) (2 ^ 63 - 1)) ≡ true) × (b ≡ 32 → ⊥)
    at true is e = (refl, λ eq. let k = eqb-true b 45 is in absurd (omega arith))
    at false is e =
        let k = and_true (is_decimal_front (b ∷ back)) (leb (digits_value 10 (b ∷ back)) (2 ^ 63 - 1)) e in
        let w = within_front (2 ^ 63 - 1) [] back b k.0 k.1 in
        (both_true (is_decimal_front (b ∷ [])) (leb (digits_value 10 (b ∷ [])) (2 ^ 63 - 1)) w.0 w.1, not_this is_ascii_digit b 32 w.2 refl)
secs_front (c ∷ front) back b e = at (eqb c 45) e
  where
    at : (t : Bool)
        → cond t (is_decimal_front (front ++ b ∷ back) && not (is_zero_first (front ++ b ∷ back)) && leb (digits_value 10 (front ++ b ∷ back)) (2 ^ 63))
        (is_decimal_front (c ∷ (front ++ b ∷ back)) && leb (digits_value 10 (c ∷ (front ++ b ∷ back))) (2 ^ 63 - 1)) ≡ true
        → (cond t (is_decimal_front (front ++ b ∷ []) && not (is_zero_first (front ++ b ∷ [])) && leb (digits_value 10 (front ++ b ∷ [])) (2 ^ 63))
        (is_decimal_front (c ∷ (front ++ b ∷ [])) && leb (digits_value 10 (c ∷ (front ++ b ∷ []))) (2 ^ 63 - 1)) ≡ true) × (b ≡ 32 → ⊥)
    at true e =
        let j = and_true (is_decimal_front (front ++ b ∷ back) && not (is_zero_first (front ++ b ∷ back))) (leb (digits_value 10 (front ++ b ∷ back)) (2 ^ 63)) e in
        let i = and_true (is_decimal_front (front ++ b ∷ back)) (not (is_zero_first (front ++ b ∷ back))) j.0 in
        let w = within_front (2 ^ 63) front back b i.0 j.1 in
        let z = ap not (sym (zero_first front back b)) ∙ i.1 in
        (both_true (is_decimal_front (front ++ b ∷ []) && not (is_zero_first (front ++ b ∷ []))) (leb (digits_value 10 (front ++ b ∷ [])) (2 ^ 63)) (both_true (is_decimal_front (front ++ b ∷ [])) (not (is_zero_first (front ++ b ∷ []))) w.0 z) w.1, not_this is_ascii_digit b 32 w.2 refl)
    at false e =
        let k = and_true (is_decimal_front (c ∷ (front ++ b ∷ back))) (leb (digits_value 10 (c ∷ (front ++ b ∷ back))) (2 ^ 63 - 1)) e in
        let w = within_front (2 ^ 63 - 1) (c ∷ front) back b k.0 k.1 in
        (both_true (is_decimal_front (c ∷ (front ++ b ∷ []))) (leb (digits_value 10 (c ∷ (front ++ b ∷ []))) (2 ^ 63 - 1)) w.0 w.1, not_this is_ascii_digit b 32 w.2 refl)

-- a front with a digit is a number
value_of_front : (w : List ℕ) (x : ℤ) → is_secs_front w ≡ true → number_of w ≡ Some x → secs_value w ≡ Some x
value_of_front w x on n = ap (λ (t : Bool). cond t (number_of w) None) on ∙ n

secs_ends : (front : List ℕ) → is_secs_front front ≡ true → (x : ℤ) × (rest : List ℕ) × AllBytes rest × (secs_value (front ++ rest) ≡ Some x)
secs_ends [] m = (pos 0, 48 ∷ [], (omega arith, tt), refl)
secs_ends (b ∷ []) m = at (eqb b 45) refl
  where
    at : (t : Bool) → eqb b 45 ≡ t → (x : ℤ) × (rest : List ℕ) × AllBytes rest × (secs_value ((b ∷ []) ++ rest) ≡ Some x)
    at true is = (negsuc 0, 49 ∷ [], (omega arith, tt), rw is refl)
    at false is = (pos (digits_value 10 (b ∷ [])), [], tt, value_of_front (b ∷ []) (pos (digits_value 10 (b ∷ []))) m (rw is refl))
secs_ends (b ∷ c ∷ bs) m =
    let w : List ℕ = b ∷ c ∷ bs in
    let k = at (eqb b 45) in
    (k.0, [], tt, ap secs_value (append-nil w) ∙ value_of_front w k.0 m k.1)
  where
    at : (t : Bool)
        → (x : ℤ) × (cond t (cond (eqb (suc (length bs)) 0) None (Some (negsuc (digits_value 10 (c ∷ bs) - 1)))) (Some (pos (digits_value 10 (b ∷ c ∷ bs)))) ≡ Some x)
    at true =
        let some : eqb (suc (length bs)) 0 ≡ false = ne_eqb (suc (length bs)) 0 (λ e. absurd (omega arith)) in (negsuc (digits_value 10 (c ∷ bs) - 1), rw some refl)
    at false = (pos (digits_value 10 (b ∷ c ∷ bs)), refl)

pub is_secs_word : IsWord is_secs_front secs_value 32
is_secs_word = record {
  stop_fits = omega arith;
  starts = refl;
  fronts = λ front back b x v. secs_front front back b (asked (is_secs_front (front ++ b ∷ back)) (number_of (front ++ b ∷ back)) x v).0;
  ends = secs_ends;
}

-- ---- a number has one spelling

-- a 0 stands alone
alone : (ds : List ℕ) → is_decimal_front ds ≡ true → 0 < length ds → get_or ds 0 0 ≡ 48 → length ds ≡ 1
alone [] on some e = absurd (omega arith)
alone (b ∷ []) on some e = refl
alone (b ∷ c ∷ bs) on some e =
    let zero : eqb b 48 ≡ true = eq-eqb b 48 e in
    let k = (and_true (is_ascii_digit b) (cond (eqb b 48) false (list_all is_ascii_digit (c ∷ bs))) on).1 in
    let off : false ≡ true = sym (ap (λ (t : Bool). cond t false (list_all is_ascii_digit (c ∷ bs))) zero) ∙ k in
    absurd cc

written : (ds : List ℕ) → is_decimal_front ds ≡ true → 0 < length ds → digits_value 10 ds < 2 ^ 64 → decimal (digits_value 10 ds) ≡ ds
written ds on some fits = decimal-digits_value own ds (all_digits ds on) some (alone ds on some) fits

not_zero : (ds : List ℕ) → is_decimal_front ds ≡ true → is_zero_first ds ≡ false → 0 < length ds → digits_value 10 ds < 2 ^ 64
    → 0 < digits_value 10 ds
not_zero ds on first some fits = at (digits_value 10 ds) refl
  where
    at : (n : ℕ) → digits_value 10 ds ≡ n → 0 < digits_value 10 ds
    at zero is =
        let zero_is : ds ≡ 48 ∷ [] = sym (written ds on some fits) ∙ ap decimal is ∙ decimal_digit 0 (omega arith) in
        let first_is : is_zero_first ds ≡ true = ap is_zero_first zero_is in
        absurd cc
    at (suc n) is = omega arith

not_true : (t : Bool) → not t ≡ true → t ≡ false
not_true true e = absurd cc
not_true false e = refl

-- the digits behind a minus sign
pub minus_digits : (ds : List ℕ) → is_secs_front (45 ∷ ds) ≡ true
    → (is_decimal_front ds ≡ true) × (is_zero_first ds ≡ false) × (digits_value 10 ds ≤ 2 ^ 63)
minus_digits ds on =
    let j = and_true (is_decimal_front ds && not (is_zero_first ds)) (leb (digits_value 10 ds) (2 ^ 63)) on in
    let i = and_true (is_decimal_front ds) (not (is_zero_first ds)) j.0 in
    (i.0, not_true (is_zero_first ds) i.1, leb-true (digits_value 10 ds) (2 ^ 63) j.1)

pub minus_positive : (ds : List ℕ) → is_secs_front (45 ∷ ds) ≡ true → 0 < length ds → 0 < digits_value 10 ds
minus_positive ds on some =
    let k = minus_digits ds on in
    let le = k.2 in
    not_zero ds k.0 k.1 some (omega arith)

pub secs_is : (w : List ℕ) (z : ℤ) → secs_value w ≡ Some z → FitsSigned w64 z × (w ≡ signed_decimal z)
secs_is [] z v = absurd (let k = (asked true (number_of []) z v).1 in cc)
secs_is (b ∷ bs) z v =
    let k = asked (is_secs_front (b ∷ bs)) (number_of (b ∷ bs)) z v in
    at (eqb b 45) refl k.0 k.1
  where
    minus : (n : Bool) → b ≡ 45 → is_secs_front (45 ∷ bs) ≡ true → eqb (length bs) 0 ≡ n
        → cond n None (Some (negsuc (digits_value 10 bs - 1))) ≡ Some z → FitsSigned w64 z × (b ∷ bs ≡ signed_decimal z)
    minus true is on n-is e = absurd cc
    minus false is on n-is e =
        let some : 0 < length bs = positive (length bs) (eqb-false (length bs) 0 n-is) in
        let k = minus_digits bs on in
        let le = k.2 in
        let more = minus_positive bs on some in
        let z-is : negsuc (digits_value 10 bs - 1) ≡ z = some_is (negsuc (digits_value 10 bs - 1)) z e in
        let back : suc (digits_value 10 bs - 1) ≡ digits_value 10 bs = omega arith in
        let text : decimal (suc (digits_value 10 bs - 1)) ≡ bs = ap decimal back ∙ written bs k.0 some (omega arith) in
        let fits : FitsSigned w64 (negsuc (digits_value 10 bs - 1)) = record { sfits = omega arith } in
        let whole : b ∷ bs ≡ 45 ∷ decimal (suc (digits_value 10 bs - 1)) = cc in
        subst (λ (y : ℤ). FitsSigned w64 y × (b ∷ bs ≡ signed_decimal y)) z-is (fits, whole)
      where
        positive : (n : ℕ) → (n ≡ 0 → ⊥) → 0 < n
        positive zero ne = absurd (ne refl)
        positive (suc n) ne = omega arith

    at : (t : Bool) → eqb b 45 ≡ t
        → cond t (is_decimal_front bs && not (is_zero_first bs) && leb (digits_value 10 bs) (2 ^ 63)) (is_decimal_front (b ∷ bs) && leb (digits_value 10 (b ∷ bs)) (2 ^ 63 - 1)) ≡ true
        → cond t (cond (eqb (length bs) 0) None (Some (negsuc (digits_value 10 bs - 1)))) (Some (pos (digits_value 10 (b ∷ bs)))) ≡ Some z → FitsSigned w64 z × (b ∷ bs ≡ signed_decimal z)
    at true is on e = minus (eqb (length bs) 0) (eqb-true b 45 is) on refl e
    at false is on e =
        let k = and_true (is_decimal_front (b ∷ bs)) (leb (digits_value 10 (b ∷ bs)) (2 ^ 63 - 1)) on in
        let le = leb-true (digits_value 10 (b ∷ bs)) (2 ^ 63 - 1) k.1 in
        let z-is : pos (digits_value 10 (b ∷ bs)) ≡ z = some_is (pos (digits_value 10 (b ∷ bs))) z e in
        let fits : FitsSigned w64 (pos (digits_value 10 (b ∷ bs))) = record { sfits = omega arith } in
        subst (λ (y : ℤ). FitsSigned w64 y × (b ∷ bs ≡ signed_decimal y)) z-is (fits, sym (written (b ∷ bs) k.0 (omega arith) (omega arith)))

front_of : (ds : List ℕ) → list_all is_ascii_digit ds ≡ true → (length ds ≡ 1) ⊎ (48 < get_or ds 0 0) → is_decimal_front ds ≡ true
front_of [] all one = refl
front_of (b ∷ []) all one = let d = (and_true (is_ascii_digit b) true all).0 in rw d (either (eqb b 48))
  where
    either : (t : Bool) → cond t true true ≡ true
    either true = refl
    either false = refl
front_of (b ∷ c ∷ bs) all (inl one) = absurd (omega arith)
front_of (b ∷ c ∷ bs) all (inr first) =
    let k = and_true (is_ascii_digit b) (list_all is_ascii_digit (c ∷ bs)) all in
    let d = k.0 in
    let other : eqb b 48 ≡ false = ne_eqb b 48 (λ e. absurd (omega arith)) in
    rw (d, other) k.1

plain_value : (ds : List ℕ) → list_all is_ascii_digit ds ≡ true → 0 < length ds → (length ds ≡ 1) ⊎ (48 < get_or ds 0 0) → digits_value 10 ds < 2 ^ 63
    → secs_value ds ≡ Some (pos (digits_value 10 ds))
plain_value [] all some one fits = absurd (omega arith)
plain_value (b ∷ bs) all some one fits =
    let digit = (and_true (is_ascii_digit b) (list_all is_ascii_digit bs) all).0 in
    let other : eqb b 45 ≡ false = ne_eqb b 45 (not_this is_ascii_digit b 45 digit refl) in
    let on = both_true (is_decimal_front (b ∷ bs)) (leb (digits_value 10 (b ∷ bs)) (2 ^ 63 - 1)) (front_of (b ∷ bs) all one) (le-leb (digits_value 10 (b ∷ bs)) (2 ^ 63 - 1) (omega arith)) in
    value_of_front (b ∷ bs) (pos (digits_value 10 (b ∷ bs)))
    (ap (λ (t : Bool). cond t (is_decimal_front bs && not (is_zero_first bs) && leb (digits_value 10 bs) (2 ^ 63)) (is_decimal_front (b ∷ bs) && leb (digits_value 10 (b ∷ bs)) (2 ^ 63 - 1))) other ∙ on)
    (ap (λ (t : Bool). cond t (cond (eqb (length bs) 0) None (Some (negsuc (digits_value 10 bs - 1)))) (Some (pos (digits_value 10 (b ∷ bs))))) other)

minus_value : (ds : List ℕ) → list_all is_ascii_digit ds ≡ true → 0 < length ds → 48 < get_or ds 0 0 → digits_value 10 ds ≤ 2 ^ 63
    → secs_value (45 ∷ ds) ≡ Some (negsuc (digits_value 10 ds - 1))
minus_value [] all some first fits = absurd (omega arith)
minus_value (b ∷ bs) all some first fits =
    let other : eqb b 48 ≡ false = ne_eqb b 48 (λ e. absurd (omega arith)) in
    let ds : List ℕ = b ∷ bs in
    let on = both_true (is_decimal_front (b ∷ bs) && not (eqb b 48)) (leb (digits_value 10 (b ∷ bs)) (2 ^ 63))
    (both_true (is_decimal_front (b ∷ bs)) (not (eqb b 48)) (front_of (b ∷ bs) all (inr first)) (ap not other)) (le-leb (digits_value 10 (b ∷ bs)) (2 ^ 63) fits) in
    let more : eqb (suc (length bs)) 0 ≡ false = ne_eqb (suc (length bs)) 0 (λ e. absurd (omega arith)) in
    value_of_front (45 ∷ b ∷ bs) (negsuc (digits_value 10 (b ∷ bs) - 1)) on (rw more refl)

pub secs_written : (z : ℤ) → FitsSigned w64 z → secs_value (signed_decimal z) ≡ Some z
secs_written (pos n) fits =
    let f = fits.sfits in
    let small : n < 2 ^ 64 = omega arith in
    let is = digits_value-decimal own n small in
    let v = plain_value (decimal n) (digits_decimal own n small) (decimal_nonempty n small) (first n small) (omega arith) in
    v ∙ ap (λ (m : ℕ). Some (pos m)) is
  where
    first : (n : ℕ) → n < 2 ^ 64 → (length (decimal n) ≡ 1) ⊎ (48 < get_or (decimal n) 0 0)
    first zero small = inl (ap length (decimal_digit 0 (omega arith)))
    first (suc n) small = inr (first_decimal (suc n) (omega arith) small)
secs_written (negsuc n) fits =
    let f = fits.sfits in
    let small : suc n < 2 ^ 64 = omega arith in
    let is = digits_value-decimal own (suc n) small in
    let v = minus_value (decimal (suc n)) (digits_decimal own (suc n) small) (decimal_nonempty (suc n) small) (first_decimal (suc n) (omega arith) small) (omega arith) in
    v ∙ ap (λ (m : ℕ). Some (negsuc (m - 1))) is ∙ ap (λ (m : ℕ). Some (negsuc m)) (let k : suc n - 1 ≡ n = omega arith in k)

-- ---- what the code tests

pub front_is : (ds : List ℕ) → is_decimal_front ds ≡ (list_all is_ascii_digit ds && (leb (length ds) 1 || not (eqb (get_or ds 0 0) 48)))
front_is [] = refl
front_is (b ∷ []) = at (is_ascii_digit b) (eqb b 48)
  where
    at : (d e : Bool) → (d && cond e true true) ≡ ((d && true) && true)
    at true true = refl
    at true false = refl
    at false e = refl
front_is (b ∷ c ∷ bs) =
    let long : leb (suc (suc (length bs))) 1 ≡ false = lt-leb (suc (suc (length bs))) 1 (omega arith) in
    at (is_ascii_digit b) (eqb b 48) (list_all is_ascii_digit (c ∷ bs)) (leb (suc (suc (length bs))) 1) long
  where
    at : (d e l t : Bool) → t ≡ false → (d && cond e false l) ≡ ((d && l) && (t || not e))
    at d e l true long = absurd cc
    at true true true false long = refl
    at true true false false long = refl
    at true false true false long = refl
    at true false false false long = refl
    at false e l false long = refl

-- a test of a number that is capped is one of the number
pub capped_le : (n most : ℕ) → most < 2 ^ 64 - 1 → leb (capped n) most ≡ leb n most
capped_le n most fits = at (leb n most) refl
  where
    at : (t : Bool) → leb n most ≡ t → leb (capped n) most ≡ t
    at true is = let le = leb-true n most is in le-leb (capped n) most (omega arith)
    at false is = let lt = leb-false n most is in lt-leb (capped n) most (omega arith)
