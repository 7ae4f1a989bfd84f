-- What goes on with a character that is broken off, and ends it.
use Rattle.std.proofs.Common.{◌≡◌, ℕ, zero, suc, ◌+◌, ◌<◌, ◌≤◌, ◌==◌, true, cond, nat_lt, List, [], ◌∷◌, ◌++◌, length, inl, inr, refl, sym, subst, append_assoc, length-append, arith}
use Rattle.std.specs.List.{list_all}
use Rattle.std.specs.Str.{IsUtf8}
use Rattle.std.specs.Str.Lossy.{second_byte_min}
use Rattle.std.proofs.lemmas.Bool.{and_parts, and_from, cases_lt, cases_Bool, or_cases, ltb-true}
use Rattle.std.proofs.lemmas.List.{append-nil}
use Rattle.seq_base.specs.RefNameFronts.{begins_char, follows, is_char, is_lead, is_second}
use Rattle.seq_base.proofs.CharFronts.{IsBroken, IsOpen, Second, either, follow_from, four_from, low_size, no_four, not_size, range_parts, second_from, second_parts, three_from, three_parts, two_size, three_size, whole_char}

-- a byte that goes on with the character
record Further (p : List ℕ) : Type 0 where
  byte : ℕ
  is_follow : follows byte ≡ true
  begins : begins_char (p ++ byte ∷ []) ≡ true

least_second : (x : ℕ) → Second x (second_byte_min x)
least_second x = record {
  follow =
      (either (λ n. 128 ≤ n) (x == 224) 160 (cond (x == 240) 144 128) (λ e. omega arith) (λ e. either (λ n. 128 ≤ n) (x == 240) 144 128 (λ f. omega arith) (λ f. omega arith)), either (λ n. n < 192) (x == 224) 160 (cond (x == 240) 144 128) (λ e. omega arith) (λ e. either (λ n. n < 192) (x == 240) 144 128 (λ f. omega arith) (λ f. omega arith)));
  least_three = λ e. subst (λ (v : ℕ). 160 ≤ second_byte_min v) (sym e) (omega arith);
  no_surrogate = λ e. subst (λ (v : ℕ). second_byte_min v < 160) (sym e) (omega arith);
  least_four = λ e. subst (λ (v : ℕ). 144 ≤ second_byte_min v) (sym e) (omega arith);
  greatest = λ e. subst (λ (v : ℕ). second_byte_min v < 144) (sym e) (omega arith);
}

further : (p : List ℕ) → IsOpen p → Further p
further [] broken = absurd (let k = broken.0 in cc)
further (x ∷ []) broken = record {
  byte = second_byte_min x;
  is_follow = follow_from (second_byte_min x) (least_second x).follow;
  begins = and_from (is_lead x) (is_second x (second_byte_min x)) lead (second_from x (second_byte_min x) (least_second x));
}
  where
    lead : is_lead x ≡ true
    lead = elim (or_cases (nat_lt x 128) (is_lead x) broken.0) [
      | inl low ↦ absurd (not_size 1 1 x broken.1 (low_size x (ltb-true x 128 low)) refl)
      | inr is ↦ is
    ]
further (x ∷ y ∷ []) broken =
    let both = and_parts (is_lead x) (is_second x y) broken.0 in
    let lead = range_parts 194 244 x both.0 in
    let long : 224 ≤ x = elim (cases_lt x 224) [ inl k ↦ absurd (let least = lead.0 in not_size 2 2 x broken.1 (two_size x (omega arith) k) refl) | inr k ↦ k ] in
    record { byte = 128; is_follow = refl; begins = three_from x y 128 long lead.1 (second_parts x y both.1) (omega arith, omega arith) }
further (x ∷ y ∷ z ∷ []) broken =
    let all = three_parts x y z broken.0 in
    let long : 240 ≤ x = elim (cases_lt x 240) [ inl k ↦ absurd (not_size 3 3 x broken.1 (three_size x all.0 k) refl) | inr k ↦ k ] in
    record { byte = 128; is_follow = refl; begins = four_from x y z 128 long all.1 all.2 all.3 (omega arith, omega arith) }
further (x ∷ y ∷ z ∷ w ∷ []) broken = absurd (no_four x y z w broken)
further (x ∷ y ∷ z ∷ w ∷ v ∷ p) broken = absurd (let k = broken.0 in cc)

-- bytes that end the character
pub record End (p : List ℕ) : Type 0 where
  pub bytes : List ℕ
  pub follow : list_all follows bytes ≡ true
  pub text : IsUtf8 (p ++ bytes)

no_more : (p : List ℕ) → 4 ≤ length p → IsOpen p → ⊥
no_more [] long broken = omega arith
no_more (x ∷ []) long broken = omega arith
no_more (x ∷ y ∷ []) long broken = omega arith
no_more (x ∷ y ∷ z ∷ []) long broken = omega arith
no_more (x ∷ y ∷ z ∷ w ∷ []) long broken = no_four x y z w broken
no_more (x ∷ y ∷ z ∷ w ∷ v ∷ p) long broken = let k = broken.0 in cc

end_within : (n : ℕ) (p : List ℕ) → 4 ≤ n + length p → IsOpen p → End p
end_within zero p long broken = absurd (no_more p (omega arith) broken)
end_within (suc n) p long broken = at (further p broken) (λ b. end_within n (p ++ b ∷ []) (omega (arith, length-append p (b ∷ []))))
  where
    put : (b : ℕ) → follows b ≡ true → End (p ++ b ∷ []) → End p
    put b f e = record {
      bytes = b ∷ e.bytes;
      follow = and_from (follows b) (list_all follows e.bytes) f e.follow;
      text = subst IsUtf8 (append_assoc p (b ∷ []) e.bytes) e.text;
    }

    at : Further p → ((b : ℕ) → IsOpen (p ++ b ∷ []) → End (p ++ b ∷ [])) → End p
    at f later = elim (cases_Bool (is_char (p ++ f.byte ∷ []))) [
      | inl whole ↦ put f.byte f.is_follow (record { bytes = []; follow = refl; text = subst IsUtf8 (sym (append-nil (p ++ f.byte ∷ []))) (whole_char (p ++ f.byte ∷ []) f.begins whole) })
      | inr more ↦ put f.byte f.is_follow (later f.byte (f.begins, more))
    ]

pub char_ends : (p : List ℕ) → IsUtf8 [] → IsBroken p → End p
char_ends [] none broken = record { bytes = []; follow = refl; text = none }
char_ends (x ∷ p) none broken = end_within 4 (x ∷ p) (omega arith) broken
