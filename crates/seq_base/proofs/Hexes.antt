-- What decoding forty digits answers.
use Rattle.std.proofs.Common.{◌≡◌, ℕ, ◌*◌, List, length, Result, Ok, Err, sym, ap, ◌∙◌, arith, zero-add, inl, inr}
use Rattle.std.specs.Prelude.{MatchResult, slice_index}
use Rattle.std.proofs.lemmas.List.{length-take, get_or-take}
use Rattle.hex.specs.Hex.{IsBytes, decode_sized, is_hex_digit}
use Rattle.hex.specs.declared.error.FromHexError.{FromHexError}
use Rattle.hex.specs.declared.error.FromHexError.TheVariants.{InvalidHexCharacter}
use Rattle.hex.proofs.HexLemmas.{decode_sized-twice, decode_of-err, decode_of-ok}
use Rattle.seq_base.specs.First.{IsFirstFailing}

told : (out : List ℕ) (r : Result (Unit {0}) FromHexError) (e : FromHexError) (d : Result (List ℕ) FromHexError)
    → MatchResult d (λ bytes. (r ≡ Ok tt) × (out ≡ bytes)) (λ f. r ≡ Err f) → r ≡ Err e → d ≡ Err e
told out r e (Ok bytes) h is = let k : r ≡ Ok tt = h.0 in absurd cc
told out r e (Err f) h is = cc

pub refused : (text out : List ℕ) (r : Result (Unit {0}) FromHexError) (e : FromHexError) → length text ≡ 40
    → MatchResult (decode_sized text 20) (λ bytes. (r ≡ Ok tt) × (out ≡ bytes)) (λ d. r ≡ Err d) → r ≡ Err e
    → (k : ℕ) × (e ≡ InvalidHexCharacter (slice_index text k) k) × IsFirstFailing is_hex_digit text k
refused text out r e len h is =
    let even : length text ≡ 2 * 20 = len in
    let bad = sym (decode_sized-twice text 20 even) ∙ told out r e (decode_sized text 20) h is in
    elim (decode_of-err text e bad) [
      | inl odd ↦ let o = odd.0 in absurd (omega arith)
      | inr at ↦ (
        at.0,
        at.1 ∙ ap (InvalidHexCharacter (slice_index text at.0)) (zero-add at.0),
        record {
          within = at.2;
          fails = at.3;
          before = λ k lt. ap is_hex_digit (sym (get_or-take at.0 text k 0 lt)) ∙ at.4 k 0 (omega (arith, length-take at.0 text, at.2, lt));
        },
      )
    ]

agreed : (out : List ℕ) (r : Result (Unit {0}) FromHexError) (d : Result (List ℕ) FromHexError)
    → MatchResult d (λ bytes. (r ≡ Ok tt) × (out ≡ bytes)) (λ f. r ≡ Err f) → r ≡ Ok tt → d ≡ Ok out
agreed out r (Ok bytes) h is = ap Ok (sym h.1)
agreed out r (Err f) h is = let k : r ≡ Err f = h in absurd cc

-- what forty digits decode to is bytes
pub accepted : (text out : List ℕ) (r : Result (Unit {0}) FromHexError) → length text ≡ 40
    → MatchResult (decode_sized text 20) (λ bytes. (r ≡ Ok tt) × (out ≡ bytes)) (λ d. r ≡ Err d) → r ≡ Ok tt
    → IsBytes out
accepted text out r len h is =
    let even : length text ≡ 2 * 20 = len in
    (decode_of-ok text out (sym (decode_sized-twice text 20 even) ∙ agreed out r (decode_sized text 20) h is)).3
