-- The last byte that does not pass is where a text without its end ends.
use Rattle.std.proofs.Common.{◌≡◌, ℕ, zero, suc, ◌+◌, ◌<◌, Bool, true, false, List, [], ◌∷◌, length, get_or, take, refl, sym, ap, ◌∙◌, arith, add-one}
use Rattle.std.specs.Prelude.{Some, None, not, ◌||◌, ◌==◌}
use Rattle.std.specs.List.{list_all}
use Rattle.std.proofs.lemmas.Bool.{cond-true, cond-false, and_from}
use Rattle.std.proofs.lemmas.List.Folds.{list_all_at}
use Rattle.memchr.specs.Find.{IsLastByte}
use Rattle.bstr.specs.Bytes.{is_in, not_in}
use Rattle.message_text.specs.Lines.{without_end, without_blanks, body, is_line_feed}
use Rattle.seq_base.specs.Blanks.{is_blank}

module _ (p : ℕ → Bool) where
  all_pass : (xs : List ℕ) → ((k : ℕ) → k < length xs → p (get_or xs k 0) ≡ true) → list_all p xs ≡ true
  all_pass [] h = refl
  all_pass (x ∷ xs) h = and_from _ _ (h 0 (omega arith)) (all_pass xs (λ k l. h (suc k) (omega arith)))

  nothing_left : (xs : List ℕ) → list_all p xs ≡ true → without_end p xs ≡ []
  nothing_left [] h = refl
  nothing_left (x ∷ xs) h = cond-true _ _ _ h

  ends_at : (xs : List ℕ) (k : ℕ) → k < length xs → p (get_or xs k 0) ≡ false
      → ((j : ℕ) → k < j → j < length xs → p (get_or xs j 0) ≡ true) → without_end p xs ≡ take (suc k) xs
  ends_at [] k l fails after = absurd (omega arith)
  ends_at (x ∷ xs) zero l fails after =
      cond-false _ _ _ (list_all_at p (x ∷ xs) 0 0 l fails) ∙ ap (λ ys. x ∷ ys) (nothing_left xs (all_pass xs (λ j w. after (suc j) (omega arith) (omega arith))))
  ends_at (x ∷ xs) (suc k) l fails after =
      cond-false _ _ _ (list_all_at p (x ∷ xs) (suc k) 0 l fails) ∙ ap (λ ys. x ∷ ys) (ends_at xs k (omega arith) fails (λ j w v. after (suc j) (omega arith) (omega arith)))

turned : (b : Bool) → not b ≡ true → b ≡ false
turned true h = cc
turned false h = refl

not_turned : (b : Bool) → ¬ (not b ≡ true) → b ≡ true
not_turned true h = refl
not_turned false h = absurd (h refl)

-- the set has the bytes that pass
module _ (p : ℕ → Bool) (set : List ℕ) (same : (b : ℕ) → is_in set b ≡ p b) where
  outside : (b : ℕ) → not_in set b ≡ true → p b ≡ false
  outside b h = sym (same b) ∙ turned (is_in set b) h

  inside : (b : ℕ) → ¬ (not_in set b ≡ true) → p b ≡ true
  inside b h = sym (same b) ∙ not_turned (is_in set b) h

  pub none_outside : (xs : List ℕ) → IsLastByte (not_in set) xs None → without_end p xs ≡ []
  none_outside xs h = nothing_left p xs (all_pass p xs (λ k l. inside _ (h k (omega arith) l)))

  pub last_outside : (xs : List ℕ) (last : ℕ) → IsLastByte (not_in set) xs (Some last) → without_end p xs ≡ take (last + 1) xs
  last_outside xs last h =
      let within = h.0.high in
      let after = h.0.after in
      rw add-one (ends_at p xs last within (outside _ h.1) (λ j w v. inside _ (after j (omega arith) v)))

or_false : (b : Bool) → (b || false) ≡ b
or_false true = refl
or_false false = refl

in_blanks : (b : ℕ) → is_in (32 ∷ 9 ∷ []) b ≡ is_blank b
unfolding is_in
in_blanks b = ap (λ t. b == 32 || t) (or_false (b == 9))

in_line_feeds : (b : ℕ) → is_in (10 ∷ []) b ≡ is_line_feed b
unfolding is_in
in_line_feeds b = or_false (b == 10)

pub without_blanks-none : (line : List ℕ) → IsLastByte (not_in (32 ∷ 9 ∷ [])) line None → without_blanks line ≡ []
without_blanks-none line h = none_outside is_blank _ in_blanks line h

pub without_blanks-last : (line : List ℕ) (last : ℕ) → IsLastByte (not_in (32 ∷ 9 ∷ [])) line (Some last) → without_blanks line ≡ take (last + 1) line
without_blanks-last line last h = last_outside is_blank _ in_blanks line last h

pub body-none : (text : List ℕ) → IsLastByte (not_in (10 ∷ [])) text None → body text ≡ []
body-none text h = none_outside is_line_feed _ in_line_feeds text h

pub body-last : (text : List ℕ) (last : ℕ) → IsLastByte (not_in (10 ∷ [])) text (Some last) → body text ≡ take (last + 1) text
body-last text last h = last_outside is_line_feed _ in_line_feeds text last h

pub ruleset body_steps = (without_blanks-none, without_blanks-last, body-none, body-last)
