-- Hex digits in either case.
use Rattle.std.proofs.Common.{◌≡◌, ℕ, ◌+◌, ◌*◌, ◌/◌, ◌%◌, ◌<◌, ◌==◌, ◌&&◌, ◌||◌, not, Bool, true, List, [], ◌∷◌, length, map, suc, Option, Some, None, Result, Ok, Err, unwrap_or, refl, sym, ap, ◌∙◌, arith}
use Rattle.std.specs.Prelude.{is_some, slice_index, ◌↔◌}
use Rattle.std.specs.Char.{to_ascii_lowercase}
use Rattle.std.proofs.lemmas.Bool.{agree_below_at, and_parts, eqb-true}
use Rattle.hex.specs.Hex.{IsBytes, decode_pairs, encode_lower, encode_upper, encode_with, hex_digit_value, lower_digits, upper_digits, value_at, pair_value, ◌>>=◌, digit_or_error}
use Rattle.hex.specs.declared.error.FromHexError.{FromHexError}
use Rattle.hex.proofs.HexLemmas.{IsDigits-lower_digits, decode_of-even, length-encode_with, decode_of-encode_lower, decode_of-encode_upper}
use Rattle.seq_base.specs.Ids.{SpellsId}

-- a digit in lower case is that of its value, and both cases have one value
abbrev agrees : ℕ → Bool
agrees c =
    (not (is_some (hex_digit_value c)) || slice_index lower_digits (unwrap_or (hex_digit_value c) 99) == to_ascii_lowercase c)
    && unwrap_or (hex_digit_value c) 99 == unwrap_or (hex_digit_value (to_ascii_lowercase c)) 99

abbrev yes : ℕ → Bool
yes c = true

agrees_at : (c : ℕ) → c < 256 → agrees c ≡ true
agrees_at c lt = agree_below_at agrees yes 256 c refl lt

some_from_unwrap : (o : Option ℕ) (d : ℕ) → d < 16 → unwrap_or o 99 ≡ d → o ≡ Some d
some_from_unwrap (Some v) d lt e = ap Some e
some_from_unwrap None d lt e = absurd (omega arith)

small : (c v : ℕ) → hex_digit_value c ≡ Some v → v < 16
small c v h = grind arith

shown : (o : Option ℕ) (v l : ℕ) → (not (is_some o) || slice_index lower_digits (unwrap_or o 99) == l) ≡ true → o ≡ Some v
    → l ≡ slice_index lower_digits v
shown (Some u) v l h is =
    let same : u ≡ v = ap (λ (o : Option ℕ). unwrap_or o 99) is in
    sym (eqb-true (slice_index lower_digits u) l h) ∙ ap (slice_index lower_digits) same
shown None v l h is = absurd cc

digit_of : (c v : ℕ) → c < 256 → hex_digit_value c ≡ Some v → to_ascii_lowercase c ≡ slice_index lower_digits v
digit_of c v lt is =
    shown (hex_digit_value c) v (to_ascii_lowercase c)
    (and_parts (not (is_some (hex_digit_value c)) || slice_index lower_digits (unwrap_or (hex_digit_value c) 99) == to_ascii_lowercase c) (unwrap_or (hex_digit_value c) 99 == unwrap_or (hex_digit_value (to_ascii_lowercase c)) 99) (agrees_at c lt)).0 is

value_of : (c v : ℕ) → c < 256 → v < 16 → to_ascii_lowercase c ≡ slice_index lower_digits v → hex_digit_value c ≡ Some v
value_of c v lt small is =
    let both = and_parts (not (is_some (hex_digit_value c)) || slice_index lower_digits (unwrap_or (hex_digit_value c) 99) == to_ascii_lowercase c) (unwrap_or (hex_digit_value c) 99 == unwrap_or (hex_digit_value (to_ascii_lowercase c)) 99) (agrees_at c lt) in
    some_from_unwrap (hex_digit_value c) v small
    (eqb-true _ _ both.1 ∙ ap (λ (d : ℕ). unwrap_or (hex_digit_value d) 99) is ∙ ap (λ (o : Option ℕ). unwrap_or o 99) (IsDigits-lower_digits v small))

bind_ok : {A B : Type 0} (r : Result A FromHexError) (f : A → Result B FromHexError) (y : B) → (r >>= f) ≡ Ok y → (x : A) × (r ≡ Ok x) × (f x ≡ Ok y)
bind_ok (Ok x) f y h = (x, refl, h)
bind_ok (Err e) f y h = absurd cc

digit_ok : (c i : ℕ) (o : Option ℕ) (v : ℕ) → digit_or_error c i o ≡ Ok v → o ≡ Some v
digit_ok c i (Some u) v h = cc
digit_ok c i None v h = absurd cc

ok_same : {A : Type 0} (x y : A) → (let r : Result A FromHexError = Ok x in r) ≡ Ok y → x ≡ y
ok_same x y h = cc

-- what decodes is, in lower case, what its bytes encode as
lower_of : (i : ℕ) (s bytes : List ℕ) → IsBytes s → decode_pairs i s ≡ Ok bytes → map to_ascii_lowercase s ≡ encode_lower bytes
unfolding decode_pairs encode_with
lower_of i [] bytes small_text h = let e : [] ≡ bytes = ok_same [] bytes h in rw (← e) refl
lower_of i (a ∷ []) bytes small_text h = absurd cc
lower_of i (a ∷ b ∷ rest) bytes small_text h =
    let p0 = bind_ok (pair_value a b i) _ bytes h in
    let p1 = bind_ok (value_at a i) _ p0.0 p0.1 in
    let p2 = bind_ok (value_at b (i + 1)) _ p0.0 p1.2 in
    let p3 = bind_ok (decode_pairs (i + 2) rest) _ bytes p0.2 in
    let later = lower_of (i + 2) rest p3.0 (λ k. small_text (suc (suc k))) p3.1 in
    let high_is = digit_ok a i (hex_digit_value a) p1.0 p1.1 in
    let low_is = digit_ok b (i + 1) (hex_digit_value b) p2.0 p2.1 in
    let high_small = small a p1.0 high_is in
    let low_small = small b p2.0 low_is in
    let byte : p1.0 * 16 + p2.0 ≡ p0.0 = ok_same (p1.0 * 16 + p2.0) p0.0 p2.2 in
    let all : p0.0 ∷ p3.0 ≡ bytes = ok_same (p0.0 ∷ p3.0) bytes p3.2 in
    let high : p0.0 / 16 ≡ p1.0 = omega arith in
    let low : p0.0 % 16 ≡ p2.0 = omega arith in
    let first = digit_of a p1.0 (small_text 0) high_is in
    let second = digit_of b p2.0 (small_text 1) low_is in
    rw (← all, high, low, first, second, later) refl

-- text that is, in lower case, what bytes encode as decodes to them
decodes : (i : ℕ) (s bytes : List ℕ) → IsBytes s → IsBytes bytes → map to_ascii_lowercase s ≡ encode_lower bytes → decode_pairs i s ≡ Ok bytes
unfolding decode_pairs encode_with
decodes i [] [] small_text small_bytes h = refl
decodes i [] (x ∷ bytes) small_text small_bytes h = absurd cc
decodes i (a ∷ []) [] small_text small_bytes h = absurd cc
decodes i (a ∷ []) (x ∷ bytes) small_text small_bytes h = absurd cc
decodes i (a ∷ b ∷ rest) [] small_text small_bytes h = absurd cc
decodes i (a ∷ b ∷ rest) (x ∷ bytes) small_text small_bytes h =
    let fits : x < 256 = small_bytes 0 in
    let high : x / 16 < 16 = omega arith in
    let low : x % 16 < 16 = omega arith in
    let first : to_ascii_lowercase a ≡ slice_index lower_digits (x / 16) = cc in
    let second : to_ascii_lowercase b ≡ slice_index lower_digits (x % 16) = cc in
    let others : map to_ascii_lowercase rest ≡ encode_lower bytes = cc in
    let high_is = value_of a (x / 16) (small_text 0) high first in
    let low_is = value_of b (x % 16) (small_text 1) low second in
    let later = decodes (i + 2) rest bytes (λ k. small_text (suc (suc k))) (λ k. small_bytes (suc k)) others in
    let whole : x / 16 * 16 + x % 16 ≡ x = omega arith in
    rw (high_is, low_is, later, whole) refl

-- text spells an id exactly where it is its hex, in either case
pub spells_in_either_case : (id text : List ℕ) → IsBytes id → length id ≡ 20 → IsBytes text
    → SpellsId id text ↔ (map to_ascii_lowercase text ≡ encode_lower id)
spells_in_either_case id text small_id twenty small_text = (
  λ s.
      let forty = s.forty in
      let even : length text % 2 ≡ 0 = omega arith in
      lower_of 0 text id small_text (sym (decode_of-even text even) ∙ s.bytes),
  λ e.
      let forty : length text ≡ 40 = sym (length-map text) ∙ ap length e ∙ omega (arith, length-encode_with lower_digits id) in
      let even : length text % 2 ≡ 0 = omega arith in
      record { forty = forty; bytes = decode_of-even text even ∙ decodes 0 text id small_text small_id e },
)
  where
    length-map : (s : List ℕ) → length (map to_ascii_lowercase s) ≡ length s
    length-map [] = refl
    length-map (c ∷ s) = ap suc (length-map s)

pub spells_lower : (id : List ℕ) → IsBytes id → length id ≡ 20 → SpellsId id (encode_lower id)
spells_lower id small_id twenty = record { forty = omega (arith, length-encode_with lower_digits id); bytes = decode_of-encode_lower id small_id }

pub spells_upper : (id : List ℕ) → IsBytes id → length id ≡ 20 → SpellsId id (encode_upper id)
spells_upper id small_id twenty = record { forty = omega (arith, length-encode_with upper_digits id); bytes = decode_of-encode_upper id small_id }
