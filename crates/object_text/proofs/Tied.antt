-- A name against the last key, a byte at a time.
use Rattle.std.proofs.Common.{◌≡◌, ℕ, ◌-◌, ◌<◌, ◌≤◌, Bool, true, false, cond, ◌&&◌, eqb, ltb, List, [], ◌∷◌, ◌++◌, length, get_or, refl, sym, ap, subst, ◌∙◌, arith}
use Rattle.std.specs.List.{list_all}
use Rattle.std.proofs.lemmas.List.{length-append}
use Rattle.std.proofs.lemmas.List.Folds.{list_all-append}
use Rattle.std.proofs.lemmas.Bool.{eqb-false, ne_eqb, lt-ltb}
use Rattle.object_text.specs.Trees.{is_name_byte}
use Rattle.object_text.specs.ReadTrees.{may_rise, may_name, is_tied, HasSeen}

pub untied : (last seen : List ℕ) (b : ℕ) → may_rise last seen ≡ true → is_tied seen last ≡ false
    → (may_rise last (seen ++ b ∷ []) ≡ true) × (is_tied (seen ++ b ∷ []) last ≡ false)
untied last [] b m t = absurd cc
untied [] (x ∷ s) b m t = (refl, refl)
untied (c ∷ l) (x ∷ s) b m t = at (untied l s b) (eqb c x) m t
  where
    at : (may_rise l s ≡ true → is_tied s l ≡ false → (may_rise l (s ++ b ∷ []) ≡ true) × (is_tied (s ++ b ∷ []) l ≡ false))
        → (u : Bool) → cond u (may_rise l s) (ltb c x) ≡ true → cond u (is_tied s l) false ≡ false
        → (cond u (may_rise l (s ++ b ∷ [])) (ltb c x) ≡ true) × (cond u (is_tied (s ++ b ∷ []) l) false ≡ false)
    at later true m t = later m t
    at later false m t = (m, refl)

pub ended : (last seen : List ℕ) (b : ℕ) → is_tied seen last ≡ true → length last ≤ length seen
    → (may_rise last (seen ++ b ∷ []) ≡ true) × (is_tied (seen ++ b ∷ []) last ≡ false)
ended [] [] b t le = (refl, refl)
ended (c ∷ l) [] b t le = absurd (omega arith)
ended [] (x ∷ s) b t le = absurd cc
ended (c ∷ l) (x ∷ s) b t le = at (λ t. ended l s b t (omega arith)) (eqb c x) t
  where
    at : (is_tied s l ≡ true → (may_rise l (s ++ b ∷ []) ≡ true) × (is_tied (s ++ b ∷ []) l ≡ false)) → (u : Bool) → cond u (is_tied s l) false ≡ true
        → (cond u (may_rise l (s ++ b ∷ [])) (ltb c x) ≡ true) × (cond u (is_tied (s ++ b ∷ []) l) false ≡ false)
    at later true t = later t
    at later false t = absurd cc

pub tied : (last seen : List ℕ) (b : ℕ) → is_tied seen last ≡ true → length seen < length last
    → (may_rise last (seen ++ b ∷ []) ≡ cond (eqb (get_or last (length seen) 0) b) true (ltb (get_or last (length seen) 0) b)) × (is_tied (seen ++ b ∷ []) last ≡ eqb (get_or last (length seen) 0) b)
tied [] seen b t lt = absurd (omega arith)
tied (c ∷ l) [] b t lt = (refl, whole (eqb c b))
  where
    whole : (u : Bool) → cond u true false ≡ u
    whole true = refl
    whole false = refl
tied (c ∷ l) (x ∷ s) b t lt = at (λ t. tied l s b t (omega arith)) (eqb c x) t
  where
    at : (is_tied s l ≡ true → (may_rise l (s ++ b ∷ []) ≡ cond (eqb (get_or l (length s) 0) b) true (ltb (get_or l (length s) 0) b)) × (is_tied (s ++ b ∷ []) l ≡ eqb (get_or l (length s) 0) b))
        → (u : Bool) → cond u (is_tied s l) false ≡ true
        → (cond u (may_rise l (s ++ b ∷ [])) (ltb c x) ≡ cond (eqb (get_or l (length s) 0) b) true (ltb (get_or l (length s) 0) b)) × (cond u (is_tied (s ++ b ∷ []) l) false ≡ eqb (get_or l (length s) 0) b)
    at later true t = later t
    at later false t = absurd cc

last_of : (seen : List ℕ) (b : ℕ) → get_or (seen ++ b ∷ []) (length seen) 0 ≡ b
last_of [] b = refl
last_of (x ∷ s) b = last_of s b

pub last_is : (front seen : List ℕ) (b : ℕ) → front ≡ seen ++ b ∷ [] → (length front - 1 ≡ length seen) × (get_or front (length front - 1) 0 ≡ b)
last_is front seen b e =
    let len : length front - 1 ≡ length seen = omega (arith, ap length e, length-append seen (b ∷ [])) in
    (len, ap (get_or front (length front - 1)) refl ∙ ap (λ (n : ℕ). get_or front n 0) len ∙ ap (λ (f : List ℕ). get_or f (length seen) 0) e ∙ last_of seen b)

and_true : (a b : Bool) → (a && b) ≡ true → (a ≡ true) × (b ≡ true)
and_true true b e = (refl, e)
and_true false b e = absurd cc

pub parts_of : (last : List ℕ) (t : Bool) (seen : List ℕ) → HasSeen last t seen → (list_all is_name_byte seen ≡ true) × (may_rise last seen ≡ true)
parts_of last t seen s = and_true (list_all is_name_byte seen) (may_rise last seen) s.goes_on

pub on : (last seen front : List ℕ) (b : ℕ) (t u : Bool) → HasSeen last u seen → front ≡ seen ++ b ∷ [] → (b ≡ 0 → ⊥) → (b ≡ 47 → ⊥) → b < 256
    → may_rise last (seen ++ b ∷ []) ≡ true → t ≡ is_tied (seen ++ b ∷ []) last
    → (true ≡ may_name last front) × (true ≡ true → HasSeen last t front)
on last seen front b t u s e nul slash fits rise tie =
    let p = (parts_of last u seen s).0 in
    let byte : is_name_byte b ≡ true = rw (ne_eqb b 0 nul, ne_eqb b 47 slash, lt-ltb b 256 fits) refl in
    let all : list_all is_name_byte (seen ++ b ∷ []) ≡ true = list_all-append is_name_byte seen (b ∷ []) ∙ rw (p, byte) refl in
    let good : may_name last (seen ++ b ∷ []) ≡ true = rw (all, rise) refl in
    subst (λ (f : List ℕ). (true ≡ may_name last f) × (true ≡ true → HasSeen last t f)) (sym e) (sym good, λ _. record { goes_on = good; tied_is = tie })

pub off : (last seen front : List ℕ) (b : ℕ) (t : Bool) → front ≡ seen ++ b ∷ [] → may_rise last (seen ++ b ∷ []) ≡ false
    → (false ≡ may_name last front) × (false ≡ true → HasSeen last t front)
off last seen front b t e rise =
    (sym (ap (may_name last) e ∙ never (list_all is_name_byte (seen ++ b ∷ [])) (may_rise last (seen ++ b ∷ [])) rise), λ k. absurd cc)
  where
    never : (x y : Bool) → y ≡ false → (x && y) ≡ false
    never true y h = h
    never false y h = refl

pub at_most : (a b : ℕ) → a ≤ b → cond (eqb a b) true (ltb a b) ≡ true
at_most a b le = at (eqb a b) refl
  where
    at : (t : Bool) → eqb a b ≡ t → cond t true (ltb a b) ≡ true
    at true is = refl
    at false is = let ne = eqb-false a b is in lt-ltb a b (omega arith)
