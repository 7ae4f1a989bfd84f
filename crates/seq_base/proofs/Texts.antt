-- Text, as a test.
use Rattle.std.proofs.Common.{◌≡◌, ℕ, Bool, true, false, ◌&&◌, ◌||◌, nat_lt, List, [], ◌∷◌, inl, inr, refl, arith}
use Rattle.std.proofs.lemmas.Str.{IsUtf8-from_is_utf8, IsUtf8-from_ascii, is_utf8-from_IsUtf8}
use Rattle.std.proofs.lemmas.Bool.{or_cases}
use Rattle.std.proofs.lemmas.Bool.Decides.{nat_tests}
use Rattle.std.proofs.lemmas.Str.Ascii.{IsAscii-cons, IsAscii-nil}
use Rattle.std.specs.Char.{is_ascii}
use Rattle.std.specs.List.{list_all}
use Rattle.std.specs.Str.{IsAscii, IsUtf8, is_utf8}
use Rattle.seq_base.specs.StorePaths.{is_text}

or_right : (a b : Bool) → b ≡ true → a || b ≡ true
or_right true b h = refl
or_right false b h = h

pub is_text-utf8 : (bytes : List ℕ) → IsUtf8 bytes → is_text bytes ≡ true
is_text-utf8 bytes h = or_right (list_all is_ascii bytes) (is_utf8 bytes) (is_utf8-from_IsUtf8 bytes h)

ascii : (bytes : List ℕ) → list_all is_ascii bytes ≡ true → IsAscii bytes
ascii [] h = IsAscii-nil
ascii (b ∷ bytes) h = elim (nat_lt b 128) as (λ t. nat_lt b 128 ≡ t → t && list_all is_ascii bytes ≡ true → IsAscii (b ∷ bytes)) [
  | true ↦ λ lt rest. IsAscii-cons b bytes (grind (arith, nat_tests)) (ascii bytes rest)
  | false ↦ λ lt rest. absurd cc
] refl h

none_true : (b : Bool) → (b ≡ true → ⊥) → b ≡ false
none_true true h = absurd (h refl)
none_true false h = refl

or_none : (a b : Bool) → a ≡ false → b ≡ false → a || b ≡ false
or_none true b h k = h
or_none false b h k = k

pub is_text-other : (bytes : List ℕ) → (IsUtf8 bytes → ⊥) → is_text bytes ≡ false
is_text-other bytes h =
    or_none (list_all is_ascii bytes) (is_utf8 bytes) (none_true (list_all is_ascii bytes) (λ e. h (IsUtf8-from_ascii bytes (ascii bytes e)))) (none_true (is_utf8 bytes) (λ e. h (IsUtf8-from_is_utf8 bytes e)))

pub utf8-is_text : (bytes : List ℕ) → is_text bytes ≡ true → IsUtf8 bytes
utf8-is_text bytes h = elim (or_cases (list_all is_ascii bytes) (is_utf8 bytes) h) [
  | inl e ↦ IsUtf8-from_ascii bytes (ascii bytes e)
  | inr e ↦ IsUtf8-from_is_utf8 bytes e
]

pub ruleset text_tests = (is_text-utf8, is_text-other)
