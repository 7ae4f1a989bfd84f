-- Bytes that stand right before others, and what bytes end in.
use Rattle.std.proofs.Common.{◌≡◌, ℕ, suc, ◌-◌, ◌<◌, ◌≤◌, ◌&&◌, ◌||◌, ◌==◌, not, nat_eq, Bool, true, false, List, [], ◌∷◌, ◌++◌, length, drop, get_or, refl, sym, ap, subst, ◌∙◌, append_assoc, length-append, arith}
use Rattle.std.specs.List.{list_all, ends_with}
use Rattle.std.proofs.lemmas.Bool.{eqb-false, and_parts, and_right, or_parts, or_from, not-true, false_from_ne_true}
use Rattle.std.proofs.lemmas.List.{drop-append-le}
use Rattle.std.proofs.lemmas.Slice.Eq.{bytes_eq-Decides}
use Rattle.seq_base.specs.RefNames.{has_pair}

-- the last byte, or 0
abbrev pub last_of : List ℕ → ℕ
last_of [] = 0
last_of (b ∷ []) = b
last_of (b ∷ c ∷ bytes) = last_of (c ∷ bytes)

pub last-push : (bytes : List ℕ) (b : ℕ) → last_of (bytes ++ b ∷ []) ≡ b
last-push [] b = refl
last-push (x ∷ []) b = refl
last-push (x ∷ y ∷ bytes) b = last-push (y ∷ bytes) b

-- it stands before a byte that comes behind
pub last-before : (bytes : List ℕ) (b : ℕ) → 0 < length bytes → get_or (bytes ++ b ∷ []) (length (bytes ++ b ∷ []) - 2) 0 ≡ last_of bytes
last-before [] b some = absurd (omega arith)
last-before (x ∷ []) b some = refl
last-before (x ∷ y ∷ bytes) b some =
    let long : length (y ∷ bytes ++ b ∷ []) ≡ suc (suc (length bytes)) = omega (arith, length-append bytes (b ∷ [])) in
    let n : length (x ∷ (y ∷ bytes ++ b ∷ [])) - 2 ≡ suc (length (y ∷ bytes ++ b ∷ []) - 2) = omega arith in
    ap (λ (k : ℕ). get_or (x ∷ (y ∷ bytes ++ b ∷ [])) k 0) n ∙ last-before (y ∷ bytes) b (omega arith)

pub at-last : (bytes : List ℕ) (b : ℕ) → get_or (bytes ++ b ∷ []) (length (bytes ++ b ∷ []) - 1) 0 ≡ b
at-last bytes b =
    let n : length (bytes ++ b ∷ []) - 1 ≡ length bytes = omega (arith, length-append bytes (b ∷ [])) in ap (λ (k : ℕ). get_or (bytes ++ b ∷ []) k 0) n
    ∙ at bytes
  where
    at : (xs : List ℕ) → get_or (xs ++ b ∷ []) (length xs) 0 ≡ b
    at [] = refl
    at (x ∷ xs) = at xs

-- one byte more
pub pair-push : (x y : ℕ) (bytes : List ℕ) (b : ℕ) → 0 < length bytes
    → has_pair x y (bytes ++ b ∷ []) ≡ (has_pair x y bytes || (last_of bytes == x && b == y))
pair-push x y [] b some = absurd (omega arith)
pair-push x y (c ∷ []) b some = or_false (c == x && b == y)
  where
    or_false : (t : Bool) → (t || false) ≡ t
    or_false true = refl
    or_false false = refl
pair-push x y (c ∷ d ∷ bytes) b some =
    ap (λ (t : Bool). (c == x && d == y) || t) (pair-push x y (d ∷ bytes) b (omega arith))
    ∙ or-assoc (c == x && d == y) (has_pair x y (d ∷ bytes)) (last_of (d ∷ bytes) == x && b == y)
  where
    or-assoc : (p q r : Bool) → (p || (q || r)) ≡ ((p || q) || r)
    or-assoc true q r = refl
    or-assoc false q r = refl

-- a front has no pair that the whole has not
pub pair-front : (x y : ℕ) (front back : List ℕ) → has_pair x y (front ++ back) ≡ false → has_pair x y front ≡ false
pair-front x y [] back h = refl
pair-front x y (c ∷ []) back h = refl
pair-front x y (c ∷ d ∷ front) back h =
    let both = or_parts (c == x && d == y) (has_pair x y (d ∷ (front ++ back))) h in
    or_from (c == x && d == y) (has_pair x y (d ∷ front)) both.0 (pair-front x y (d ∷ front) back both.1)

-- bytes that are not the second of a pair
pub pair-append : (x y : ℕ) (front back : List ℕ) → 0 < length front → has_pair x y front ≡ false → list_all (λ b. not (b == y)) back ≡ true
    → has_pair x y (front ++ back) ≡ false
pair-append x y front [] some h free = subst (λ (l : List ℕ). has_pair x y l ≡ false) (sym (nil front)) h
  where
    nil : (l : List ℕ) → l ++ [] ≡ l
    nil [] = refl
    nil (c ∷ l) = ap (λ (t : List ℕ). c ∷ t) (nil l)
pair-append x y front (b ∷ back) some h free =
    let both = and_parts (not (b == y)) (list_all (λ c. not (c == y)) back) free in
    let one : has_pair x y (front ++ b ∷ []) ≡ false = pair-push x y front b some ∙ or_from (has_pair x y front) (last_of front == x && b == y) h (and_right (last_of front == x) (b == y) (not-true (b == y) both.0)) in
    subst (λ (l : List ℕ). has_pair x y l ≡ false) (append_assoc front (b ∷ []) back) (pair-append x y (front ++ b ∷ []) back (omega (arith, length-append front (b ∷ []))) one both.1)

-- what ends in other bytes has their last
pub no_end : (bytes end : List ℕ) (b c : ℕ) → (b == c) ≡ false → ends_with nat_eq (bytes ++ b ∷ []) (end ++ c ∷ []) ≡ false
no_end bytes end b c apart = false_from_ne_true (ends_with nat_eq (bytes ++ b ∷ []) (end ++ c ∷ [])) (λ is.
    let n = length (bytes ++ b ∷ []) - length (end ++ c ∷ []) in
    let within : n ≤ length bytes = omega (arith, length-append bytes (b ∷ []), length-append end (c ∷ [])) in
    let same : end ++ c ∷ [] ≡ drop n (bytes ++ b ∷ []) = (bytes_eq-Decides (end ++ c ∷ []) (drop n (bytes ++ b ∷ []))).0 is in
    let whole : end ++ c ∷ [] ≡ drop n bytes ++ b ∷ [] = same ∙ drop-append-le n bytes (b ∷ []) within in
    eqb-false b c apart (sym (last-push (drop n bytes) b) ∙ ap last_of (sym whole) ∙ last-push end c))
