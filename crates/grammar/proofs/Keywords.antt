-- Keywords are words.
use Rattle.std.proofs.Common.{◌≡◌, ℕ, ◌<◌, Bool, true, false, cond, eqb, ltb, not, ◌&&◌, List, [], ◌∷◌, ◌++◌, length, drop, Option, Some, None, refl, sym, ap, subst, ◌∙◌, append_assoc}
use Rattle.std.proofs.lemmas.Slice.Eq.{starts_is, bytes_eq-Decides}
use Rattle.std.proofs.lemmas.Bool.Decides.{Decides-eqb}
use Rattle.std.proofs.lemmas.Bool.{eqb-false, ltb-true}
use Rattle.grammar.specs.Grammar.{AllBytes}
use Rattle.grammar.specs.Readers.{IsWord}
use Rattle.grammar.specs.Keywords.{is_front, is_same, value_of, may_of, IsPlain, ArePlain, is_plain, are_plain}

pub same_true : (a b : List ℕ) → is_same a b ≡ true → a ≡ b
same_true a b e = (bytes_eq-Decides a b).0 e

pub same_refl : (a : List ℕ) → is_same a a ≡ true
same_refl a = (bytes_eq-Decides a a).1 refl

pub front_true : (p t : List ℕ) → is_front p t ≡ true → (rest : List ℕ) × (t ≡ p ++ rest)
front_true p t e = (drop (length p) t, (starts_is Decides-eqb t p (is_front p t) refl).0 e)

pub front_of : (p rest : List ℕ) → is_front p (p ++ rest) ≡ true
front_of p rest = (starts_is Decides-eqb (p ++ rest) p (is_front p (p ++ rest)) refl).1 rest refl

plain_at : (stop : ℕ) (front : List ℕ) (b : ℕ) (back : List ℕ) → IsPlain stop (front ++ b ∷ back) → b ≡ stop → ⊥
plain_at stop [] b back h = h.1
plain_at stop (a ∷ front) b back h = plain_at stop front b back h.2

plain_bytes : (stop : ℕ) (front rest : List ℕ) → IsPlain stop (front ++ rest) → AllBytes rest
plain_bytes stop [] [] h = tt
plain_bytes stop [] (b ∷ rest) h = (h.0, plain_bytes stop [] rest h.2)
plain_bytes stop (a ∷ front) rest h = plain_bytes stop front rest h.2

pub fronts : {K : Type 0} (stop : ℕ) (ks : List (List ℕ × K)) → ArePlain stop ks → (front back : List ℕ) (b : ℕ) (x : K)
    → value_of ks (front ++ b ∷ back) ≡ Some x
    → (may_of ks (front ++ b ∷ []) ≡ true) × (b ≡ stop → ⊥)
fronts stop [] plain front back b x v = absurd cc
fronts {K} stop (k ∷ ks) plain front back b x v =
    at (fronts stop ks plain.1 front back b x) (is_same k.0 (front ++ b ∷ back)) refl (is_front (front ++ b ∷ []) k.0) refl v
  where
    at : (value_of ks (front ++ b ∷ back) ≡ Some x → (may_of ks (front ++ b ∷ []) ≡ true) × (b ≡ stop → ⊥))
        → (t : Bool) → is_same k.0 (front ++ b ∷ back) ≡ t → (m : Bool) → is_front (front ++ b ∷ []) k.0 ≡ m → cond t (Some k.1) (value_of ks (front ++ b ∷ back)) ≡ Some x
        → (cond m true (may_of ks (front ++ b ∷ [])) ≡ true) × (b ≡ stop → ⊥)
    at later true is true m-is v =
        (refl, plain_at stop front b back (subst (λ (t : List ℕ). IsPlain stop t) (same_true k.0 (front ++ b ∷ back) is) plain.0))
    at later true is false m-is v =
        let text : k.0 ≡ (front ++ b ∷ []) ++ back = same_true k.0 (front ++ b ∷ back) is ∙ sym (append_assoc front (b ∷ []) back) in
        let good = ap (is_front (front ++ b ∷ [])) text ∙ front_of (front ++ b ∷ []) back in
        absurd cc
    at later false is true m-is v = (refl, (later v).1)
    at later false is false m-is v = later v

pub ends : {K : Type 0} (stop : ℕ) (ks : List (List ℕ × K)) → ArePlain stop ks → (front : List ℕ) → may_of ks front ≡ true
    → (x : K) × (rest : List ℕ) × AllBytes rest × (value_of ks (front ++ rest) ≡ Some x)
ends stop [] plain front m = absurd cc
ends {K} stop (k ∷ ks) plain front m = at (ends stop ks plain.1 front) (is_front front k.0) refl m
  where
    else_same : (y : K) (t : List ℕ) (s : Bool) → value_of ks t ≡ Some y → (x : K) × (cond s (Some k.1) (value_of ks t) ≡ Some x)
    else_same y t true v = (k.1, refl)
    else_same y t false v = (y, v)

    at : (may_of ks front ≡ true → (x : K) × (rest : List ℕ) × AllBytes rest × (value_of ks (front ++ rest) ≡ Some x))
        → (t : Bool) → is_front front k.0 ≡ t → cond t true (may_of ks front) ≡ true → (x : K) × (rest : List ℕ) × AllBytes rest × (value_of (k ∷ ks) (front ++ rest) ≡ Some x)
    at later true is m =
        let f = front_true front k.0 is in
        let e = f.1 in
        (k.1, f.0, plain_bytes stop front f.0 (subst (λ (t : List ℕ). IsPlain stop t) e plain.0), rw (← e, same_refl k.0) refl)
    at later false is m =
        let f = later m in
        let y = else_same f.0 (front ++ f.1) (is_same k.0 (front ++ f.1)) f.3 in
        (y.0, f.1, f.2, y.1)

-- from a test that computes
and_true : (a b : Bool) → (a && b) ≡ true → (a ≡ true) × (b ≡ true)
and_true true b e = (refl, e)
and_true false b e = absurd cc

not_true : (a : Bool) → not a ≡ true → a ≡ false
not_true true e = absurd cc
not_true false e = refl

plain_from : (stop : ℕ) (w : List ℕ) → is_plain stop w ≡ true → IsPlain stop w
plain_from stop [] e = tt
plain_from stop (b ∷ w) e =
    let k = and_true (ltb b 256 && not (eqb b stop)) (is_plain stop w) e in
    let j = and_true (ltb b 256) (not (eqb b stop)) k.0 in
    (ltb-true b 256 j.0, eqb-false b stop (not_true (eqb b stop) j.1), plain_from stop w k.1)

are_plain_from : {K : Type 0} (stop : ℕ) (ks : List (List ℕ × K)) → are_plain stop ks ≡ true → ArePlain stop ks
are_plain_from stop [] e = tt
are_plain_from stop (k ∷ ks) e =
    let j = and_true (is_plain stop k.0) (are_plain stop ks) e in
    (plain_from stop k.0 j.0, are_plain_from stop ks j.1)

pub keywords : {K : Type 0} (stop : ℕ) (ks : List (List ℕ × K)) → stop < 256 → are_plain stop ks ≡ true → may_of ks [] ≡ true
    → IsWord (may_of ks) (value_of ks) stop
keywords stop ks fits plain on =
    record { stop_fits = fits; starts = on; fronts = fronts stop ks (are_plain_from stop ks plain); ends = ends stop ks (are_plain_from stop ks plain) }

-- the word of a value
abbrev pub HaveTexts : {K : Type 0} → (K → List ℕ) → List (List ℕ × K) → Type 0
HaveTexts text [] = Unit {0}
HaveTexts text (k ∷ ks) = (text k.1 ≡ k.0) × HaveTexts text ks

pub value_text : {K : Type 0} (text : K → List ℕ) (ks : List (List ℕ × K)) → HaveTexts text ks → (w : List ℕ) (x : K) → value_of ks w ≡ Some x
    → w ≡ text x
value_text text [] h w x v = absurd cc
value_text {K} text (k ∷ ks) h w x v = at (value_text text ks h.1 w x) (is_same k.0 w) refl v
  where
    at : (value_of ks w ≡ Some x → w ≡ text x) → (t : Bool) → is_same k.0 w ≡ t → cond t (Some k.1) (value_of ks w) ≡ Some x → w ≡ text x
    at later true is v =
        let e = same_true k.0 w is in
        let same : k.1 ≡ x = cc in
        sym e ∙ sym h.0 ∙ ap text same
    at later false is v = later v

pub value_none : {K : Type 0} (text : K → List ℕ) (ks : List (List ℕ × K)) → HaveTexts text ks → (w : List ℕ) → ((x : K) → w ≡ text x → ⊥)
    → value_of ks w ≡ None
value_none {K} text ks h w none = at (value_of ks w) refl
  where
    at : (o : Option K) → value_of ks w ≡ o → value_of ks w ≡ None
    at None e = e
    at (Some x) e = absurd (none x (value_text text ks h w x e))
