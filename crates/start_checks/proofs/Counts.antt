-- A number of at most 9 digits fits.
use Rattle.std.proofs.Common.{◌≡◌, ℕ, ◌^◌, ◌<◌, ◌==◌, true, not, List, [], ◌∷◌, length, arith}
use Rattle.std.specs.Prelude.{nat_lt}
use Rattle.std.specs.Char.{is_ascii_digit}
use Rattle.std.specs.List.{list_all}
use Rattle.std.specs.Str.Parse.{AllDigits, digits_value}
use Rattle.std.proofs.Math.Nat.{pow-le-pow_right}
use Rattle.std.proofs.lemmas.Bool.{and_parts}
use Rattle.std.proofs.lemmas.Int.Digits.{digits_value-lt}
use Rattle.std.proofs.lemmas.Str.{digit_value_digit}
use Rattle.std.proofs.lemmas.Bool.Decides.{nat_tests}
use Rattle.grammar.specs.Decimals.{capped}
use Rattle.grammar.proofs.DecimalLaws.{digit_is}
use Rattle.seq_model.specs.Settings.{is_short}

all_digits : (ds : List ℕ) → list_all is_ascii_digit ds ≡ true → AllDigits 10 ds
all_digits [] h = tt
all_digits (c ∷ ds) h =
    let k = and_parts (is_ascii_digit c) (list_all is_ascii_digit ds) h in
    let digit = digit_is c k.0 in
    let value = digit_value_digit c digit in
    (omega arith, all_digits ds k.1)

less : (m n : ℕ) → nat_lt m n ≡ true → m < n
less m n is = grind (arith, nat_tests)

few : (ds : List ℕ) → length ds < 10 → AllDigits 10 ds → digits_value 10 ds < 10 ^ 9
few ds short all =
    let below = digits_value-lt 10 ds all in
    let most = pow-le-pow_right {n = 10} (omega arith) {i = length ds} {j = 9} (omega arith) in
    omega arith

pub count_fits : (text : List ℕ) → is_short text ≡ true → list_all is_ascii_digit text ≡ true → capped (digits_value 10 text) ≡ digits_value 10 text
count_fits text is digits =
    let short = and_parts (not (length text == 0)) (nat_lt (length text) 10) is in
    let below = few text (less (length text) 10 short.1) (all_digits text digits) in
    omega arith
