-- Decimal numbers are words.
use Rattle.std.proofs.Common.{◌≡◌, ℕ, zero, suc, ◌+◌, ◌*◌, ◌-◌, ◌^◌, ◌<◌, ◌≤◌, Bool, true, false, cond, eqb, leb, List, [], ◌∷◌, ◌++◌, length, take, get_or, Some, None, refl, ap, ◌∙◌, arith}
use Rattle.std.specs.Prelude.{min}
use Rattle.std.specs.Char.{is_ascii_digit}
use Rattle.std.specs.List.{list_all}
use Rattle.std.specs.Fmt.{decimal}
use Rattle.std.specs.Str.Parse.{AllDigits, digits_value}
use Rattle.std.proofs.lemmas.Fmt.{decimal_digit, decimal_is_IsNumeral, first_decimal}
use Rattle.std.proofs.lemmas.Str.Parse.{digit_from_value}
use Rattle.std.proofs.lemmas.List.{append-nil}
use Rattle.std.proofs.lemmas.List.Sums.{AllPass-from_list_all}
use Rattle.std.proofs.lemmas.Int.Digits.{digits_value_more}
use Rattle.std.proofs.lemmas.Str.{digit_value_digit}
use Rattle.std.proofs.lemmas.Bool.{ne_eqb, leb-true, le-leb}
use Rattle.grammar.specs.Grammar.{AllBytes}
use Rattle.grammar.specs.Readers.{Reads, HasText, Word, IsWord}
use Rattle.grammar.specs.Decimals.{is_none, is_decimal_front, decimal_value, decimal_at, capped}
use Rattle.grammar.proofs.Passing.{and_true}
use Rattle.grammar.proofs.Words.{valued_reads, word_has}

guard : {X : Type 0} (t : Bool) (x y : X) → cond t (Some x) None ≡ Some y → (t ≡ true) × (x ≡ y)
guard true x y e = (refl, cc)
guard false x y e = absurd cc

-- a front of digits is one, and so is its last byte
more_digits : (front back : List ℕ) (b : ℕ) → list_all is_ascii_digit (front ++ b ∷ back) ≡ true
    → (list_all is_ascii_digit (front ++ b ∷ []) ≡ true) × (is_ascii_digit b ≡ true)
more_digits [] back b e =
    let k = and_true (is_ascii_digit b) (list_all is_ascii_digit back) e in
    let d = k.0 in
    (rw d refl, d)
more_digits (c ∷ front) back b e =
    let k = and_true (is_ascii_digit c) (list_all is_ascii_digit (front ++ b ∷ back)) e in
    let m = more_digits front back b k.1 in
    let d = k.0 in
    (rw d m.0, m.1)

pub decimal_front : (front back : List ℕ) (b : ℕ) → is_decimal_front (front ++ b ∷ back) ≡ true
    → (is_decimal_front (front ++ b ∷ []) ≡ true) × (is_ascii_digit b ≡ true)
decimal_front [] back b e =
    let k = and_true (is_ascii_digit b) (cond (eqb b 48) (is_none back) (list_all is_ascii_digit back)) e in
    let d = k.0 in
    (rw d (both (eqb b 48)), d)
  where
    both : (t : Bool) → cond t true true ≡ true
    both true = refl
    both false = refl
decimal_front (c ∷ front) back b e =
    let k = and_true (is_ascii_digit c) (cond (eqb c 48) (is_none (front ++ b ∷ back)) (list_all is_ascii_digit (front ++ b ∷ back))) e in
    let d = k.0 in
    let m = at (eqb c 48) k.1 in
    (rw d m.0, m.1)
  where
    not_none : (xs : List ℕ) → is_none (xs ++ b ∷ back) ≡ true → ⊥
    not_none [] e = absurd cc
    not_none (x ∷ xs) e = absurd cc

    at : (t : Bool) → cond t (is_none (front ++ b ∷ back)) (list_all is_ascii_digit (front ++ b ∷ back)) ≡ true
        → (cond t (is_none (front ++ b ∷ [])) (list_all is_ascii_digit (front ++ b ∷ [])) ≡ true) × (is_ascii_digit b ≡ true)
    at true e = absurd (not_none front e)
    at false e = more_digits front back b e

pub value_is : (w : List ℕ) (x : ℕ) → decimal_value w ≡ Some x → (is_decimal_front w ≡ true) × (digits_value 10 w ≡ x)
value_is [] x v = absurd cc
value_is (b ∷ bs) x v = guard (is_decimal_front (b ∷ bs)) (digits_value 10 (b ∷ bs)) x v

decimal_ends : (front : List ℕ) → is_decimal_front front ≡ true → (x : ℕ) × (rest : List ℕ) × AllBytes rest × (decimal_value (front ++ rest) ≡ Some x)
decimal_ends [] m = (0, 48 ∷ [], (omega arith, tt), refl)
decimal_ends (b ∷ bs) m = (digits_value 10 (b ∷ bs), [], tt, ap decimal_value (append-nil (b ∷ bs)) ∙ rw m refl)

pub is_decimal : (stop : ℕ) → stop < 256 → is_ascii_digit stop ≡ false → IsWord is_decimal_front decimal_value stop
is_decimal stop fits off = record {
  stop_fits = fits;
  starts = refl;
  fronts = λ front back b x v.
      let k = decimal_front front back b (value_is (front ++ b ∷ back) x v).0 in
      (k.0, λ e. let same = ap is_ascii_digit e in let on = k.1 in cc);
  ends = decimal_ends;
}

pub decimal_reads : (stop : ℕ) → stop < 256 → is_ascii_digit stop ≡ false → Reads (Word decimal_value stop) (decimal_at stop)
unfolding decimal_at
decimal_reads stop fits off = valued_reads is_decimal_front decimal_value stop (is_decimal stop fits off)

pub decimal_has : (stop : ℕ) → stop < 256 → is_ascii_digit stop ≡ false → HasText (Word decimal_value stop)
decimal_has stop fits off = word_has is_decimal_front decimal_value stop (is_decimal stop fits off)

-- what goes up to its last byte is digits
pub all_digits : (w : List ℕ) → is_decimal_front w ≡ true → list_all is_ascii_digit w ≡ true
all_digits [] on = refl
all_digits (b ∷ bs) on =
    let k = and_true (is_ascii_digit b) (cond (eqb b 48) (is_none bs) (list_all is_ascii_digit bs)) on in
    let first = k.0 in
    rw first (at (eqb b 48) bs k.1)
  where
    at : (t : Bool) (bs : List ℕ) → cond t (is_none bs) (list_all is_ascii_digit bs) ≡ true → list_all is_ascii_digit bs ≡ true
    at true [] e = refl
    at true (c ∷ bs) e = absurd cc
    at false bs e = e

-- a digit is one of ten bytes
pub digit_is : (c : ℕ) → is_ascii_digit c ≡ true → (48 ≤ c) × (c ≤ 57)
digit_is c on =
    let k = and_true (leb 48 c) (leb c 57) on in
    (leb-true 48 c k.0, leb-true c 57 k.1)

-- one more digit of a number
pub capped_more : (ds : List ℕ) (i : ℕ) → i < length ds → list_all is_ascii_digit ds ≡ true
    → capped (digits_value 10 (take (i + 1) ds)) ≡ min (min (capped (digits_value 10 (take i ds)) * 10) (2 ^ 64 - 1) + (get_or ds i 0 - 48)) (2 ^ 64 - 1)
capped_more ds i lt all =
    let digit = digit_is (get_or ds i 0) (AllPass-from_list_all is_ascii_digit ds all i 0 lt) in
    let value = digit_value_digit (get_or ds i 0) digit in
    let more = digits_value_more 10 ds i lt in
    omega arith

-- ---- what is written of a number

digits_all : (ds : List ℕ) → AllDigits 10 ds → list_all is_ascii_digit ds ≡ true
digits_all [] h = refl
digits_all (c ∷ ds) h =
    let range = digit_from_value c h.0 in
    let low = le-leb 48 c range.0 in
    let high = le-leb c 57 range.1 in
    rw (low, high) (digits_all ds h.1)

written : (ds : List ℕ) (n : ℕ) → 0 < length ds → list_all is_ascii_digit ds ≡ true → 48 < get_or ds 0 0 → digits_value 10 ds ≡ n
    → decimal_value ds ≡ Some n
written [] n some all high value = absurd (omega arith)
written (b ∷ bs) n some all high value =
    let k = and_true (is_ascii_digit b) (list_all is_ascii_digit bs) all in
    let first = k.0 in
    let rest = k.1 in
    let other : eqb b 48 ≡ false = ne_eqb b 48 (λ e. absurd (omega arith)) in
    rw (first, other, rest) (ap Some value)

-- the digits that `{}` writes of a number are its decimal number
pub decimal_value-decimal : (n : ℕ) → n < 2 ^ 64 → decimal_value (decimal n) ≡ Some n
decimal_value-decimal zero fits = ap decimal_value (decimal_digit 0 (omega arith))
decimal_value-decimal (suc n) fits =
    let k = decimal_is_IsNumeral (suc n) fits in
    written (decimal (suc n)) (suc n) k.0.0 (digits_all (decimal (suc n)) k.0.1) (first_decimal (suc n) (omega arith) fits) k.1
