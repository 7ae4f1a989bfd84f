-- An object's file has its place, and its path is a store path.
use Rattle.std.proofs.Common.{◌≡◌, ℕ, ◌/◌, ◌%◌, ◌<◌, ◌==◌, Bool, true, false, not, List, [], ◌∷◌, ◌++◌, length, take, drop, suc, refl, sym, ap, ◌∙◌, arith, length-take, length-drop}
use Rattle.std.specs.Prelude.{codes, slice_index}
use Rattle.std.specs.Char.{is_ascii}
use Rattle.std.specs.List.{list_all, list_any}
use Rattle.std.proofs.lemmas.Bool.{agree_below_at, and_parts, and_from, eq-eqb}
use Rattle.std.proofs.lemmas.Bool.Decides.{nat_tests}
use Rattle.std.proofs.lemmas.List.{take-append-drop}
use Rattle.std.proofs.lemmas.List.Elements.{All-weaker}
use Rattle.std.proofs.lemmas.List.Folds.{list_all-append}
use Rattle.std.proofs.lemmas.List.Splits.{slice_split_none}
use Rattle.std.proofs.lemmas.List.Sums.{AllPass-from_list_all}
use Rattle.hex.specs.Hex.{IsBytes, encode_lower, encode_with, lower_digits}
use Rattle.hex.proofs.HexLemmas.{length-encode_with}
use Rattle.seq_base.specs.Paths.{parts}
use Rattle.seq_base.specs.Repository.{is_file_place, object_path}
use Rattle.seq_base.specs.StorePaths.{IsStorePath, is_store_part}
use Rattle.seq_base.proofs.Places.{parts-behind}

abbrev is_digit : ℕ → Bool
is_digit b = list_any (λ d. d == b) lower_digits

-- a digit of the table, which is no slash
abbrev is_digit_at : ℕ → Bool
is_digit_at d = is_digit (slice_index lower_digits d)

abbrev yes : ℕ → Bool
yes d = true

digits_of : (bytes : List ℕ) → IsBytes bytes → list_all is_digit (encode_lower bytes) ≡ true
unfolding encode_with
digits_of [] small = refl
digits_of (b ∷ bytes) small =
    let fits : b < 256 = small 0 in
    let high : b / 16 < 16 = omega arith in
    let low : b % 16 < 16 = omega arith in
    and_from (is_digit_at (b / 16)) _ (agree_below_at is_digit_at yes 16 (b / 16) refl high)
    (and_from (is_digit_at (b % 16)) _ (agree_below_at is_digit_at yes 16 (b % 16) refl low) (digits_of bytes (λ k. small (suc k))))

no_slash : (b : ℕ) → is_digit b ≡ true → (b == 47) ≡ false
no_slash b h = grind arith

one_part : (digits : List ℕ) → list_all is_digit digits ≡ true → parts digits ≡ digits ∷ []
one_part digits h =
    slice_split_none (λ b. b == 47) digits (All-weaker (λ b. is_digit b ≡ true) (λ b. (b == 47) ≡ false) no_slash digits (AllPass-from_list_all is_digit digits h))

-- the parts of an object's path, the last two of them digits
record HasObjectParts (id : List ℕ) : Type 0 where
  split : parts (object_path id) ≡ codes ".git" ∷ codes "objects" ∷ take 2 (encode_lower id) ∷ drop 2 (encode_lower id) ∷ []
  front_length : length (take 2 (encode_lower id)) ≡ 2
  back_length : length (drop 2 (encode_lower id)) ≡ 38
  front_digits : list_all is_digit (take 2 (encode_lower id)) ≡ true
  back_digits : list_all is_digit (drop 2 (encode_lower id)) ≡ true

object_parts : (id : List ℕ) → IsBytes id → length id ≡ 20 → HasObjectParts id
object_parts id small twenty =
    let all = digits_of id small in
    let both = and_parts (list_all is_digit (take 2 (encode_lower id))) (list_all is_digit (drop 2 (encode_lower id))) (sym (list_all-append is_digit (take 2 (encode_lower id)) (drop 2 (encode_lower id))) ∙ ap (list_all is_digit) (take-append-drop 2 (encode_lower id)) ∙ all) in
    let forty = length-encode_with lower_digits id in
    record {
      split = parts-behind (codes ".git/objects") (take 2 (encode_lower id) ++ 47 ∷ drop 2 (encode_lower id))
          ∙ ap (λ (ps : List (List ℕ)). codes ".git" ∷ codes "objects" ∷ ps) (parts-behind (take 2 (encode_lower id)) (drop 2 (encode_lower id)))
          ∙ ap (λ (ps : List (List ℕ)). codes ".git" ∷ codes "objects" ∷ (ps ++ parts (drop 2 (encode_lower id)))) (one_part (take 2 (encode_lower id)) both.0)
          ∙ ap (λ (ps : List (List ℕ)). codes ".git" ∷ codes "objects" ∷ take 2 (encode_lower id) ∷ ps) (one_part (drop 2 (encode_lower id)) both.1);
      front_length = omega (arith, length-take 2 (encode_lower id));
      back_length = omega (arith, length-drop 2 (encode_lower id));
      front_digits = both.0;
      back_digits = both.1;
    }

pub object_has_place : (id : List ℕ) → IsBytes id → length id ≡ 20 → is_file_place (parts (object_path id)) ≡ true
object_has_place id small twenty =
    let has = object_parts id small twenty in
    ap is_file_place has.split ∙ and_from _ _ (and_from (length (take 2 (encode_lower id)) == 2) _ (eq-eqb _ 2 has.front_length) has.front_digits) (and_from (length (drop 2 (encode_lower id)) == 38) _ (eq-eqb _ 38 has.back_length) has.back_digits)

-- ---- a store path

no_dot : (b : ℕ) → is_digit b ≡ true → (46 == b) ≡ false
no_dot b h = grind arith

no_nul : (b : ℕ) → is_digit b ≡ true → not (b == 0) ≡ true
no_nul b h = grind arith

ascii_digit : (b : ℕ) → is_digit b ≡ true → is_ascii b ≡ true
ascii_digit b h = grind (arith, nat_tests)

all_so : (test : ℕ → Bool) → ((b : ℕ) → is_digit b ≡ true → test b ≡ true) → (digits : List ℕ) → list_all is_digit digits ≡ true
    → list_all test digits ≡ true
all_so test so [] h = refl
all_so test so (d ∷ digits) h =
    let both = and_parts (is_digit d) (list_all is_digit digits) h in
    and_from (test d) (list_all test digits) (so d both.0) (all_so test so digits both.1)

not_none : (n : ℕ) → 0 < n → not (n == 0) ≡ true
not_none n some = grind arith

store_part : (digits : List ℕ) → 0 < length digits → list_all is_digit digits ≡ true → is_store_part digits ≡ true
store_part [] some h = absurd (omega arith)
store_part (d ∷ digits) some h =
    let first = no_dot d (and_parts (is_digit d) (list_all is_digit digits) h).0 in
    let full : not (length (d ∷ digits) == 0) ≡ true = not_none (length (d ∷ digits)) some in
    rw (first, full) (all_so (λ b. not (b == 0)) no_nul (d ∷ digits) h)

pub object_path_is_store_path : (id : List ℕ) → IsBytes id → length id ≡ 20 → IsStorePath (object_path id)
object_path_is_store_path id small twenty =
    let has = object_parts id small twenty in
    let ascii : list_all is_ascii (object_path id) ≡ true =
    list_all-append is_ascii (codes ".git/objects/") (take 2 (encode_lower id) ++ 47 ∷ drop 2 (encode_lower id))
    ∙ (list_all-append is_ascii (take 2 (encode_lower id)) (47 ∷ drop 2 (encode_lower id))
    ∙ and_from (list_all is_ascii (take 2 (encode_lower id))) (list_all is_ascii (drop 2 (encode_lower id))) (all_so is_ascii ascii_digit (take 2 (encode_lower id)) has.front_digits) (all_so is_ascii ascii_digit (drop 2 (encode_lower id)) has.back_digits)) in
    let good : list_all is_store_part (parts (object_path id)) ≡ true =
    ap (list_all is_store_part) has.split ∙ and_from (is_store_part (take 2 (encode_lower id))) _ (store_part (take 2 (encode_lower id)) (omega arith) has.front_digits) (and_from (is_store_part (drop 2 (encode_lower id))) true (store_part (drop 2 (encode_lower id)) (omega arith) has.back_digits) refl) in
    rw (ascii, good) refl
