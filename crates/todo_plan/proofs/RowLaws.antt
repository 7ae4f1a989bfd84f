-- Rows with one more.
use Rattle.std.proofs.Common.{◌≡◌, ℕ, suc, ◌+◌, ◌<◌, Bool, true, false, cond, List, [], ◌∷◌, ◌++◌, length, Option, Some, None, is_some, refl, sym, ap, ◌∙◌, arith}
use Rattle.std.specs.Prelude.{nat_le, IfSome}
use Rattle.std.specs.List.{position_from}
use Rattle.std.specs.Str.{bytes_eq}
use Rattle.std.specs.BTreeMap.{BTreeMap, get, is_at}
use Rattle.std.specs.Cmp.Lexicographic.{slice_cmp}
use Rattle.std.specs.Ordering.{nat_cmp}
use Rattle.std.proofs.lemmas.Map.Text.{is_eq-slice_cmp}
use Rattle.std.proofs.lemmas.Slice.Eq.{bytes_eq-Decides}
use Rattle.todo_plan.specs.Autosquash.{Row, begins_with, first_row, or_else, target, with_digits, with_start, with_subject}
use Rattle.todo_plan.specs.Shape.{AreRows}

or_none : (v : Option ℕ) → or_else v None ≡ v
or_none None = refl
or_none (Some n) = refl

from_push : (p : Row → Bool) (n : ℕ) (rows : List Row) (r : Row)
    → position_from p n (rows ++ r ∷ []) ≡ or_else (position_from p n rows) (cond (p r) (Some (n + length rows)) None)
from_push p n [] r = let k : n + 0 ≡ n = omega arith in rw k refl
from_push p n (x ∷ rows) r = at (from_push p (n + 1) rows r) (p x)
  where
    at : position_from p (n + 1) (rows ++ r ∷ []) ≡ or_else (position_from p (n + 1) rows) (cond (p r) (Some (n + 1 + length rows)) None) → (t : Bool)
        → cond t (Some n) (position_from p (n + 1) (rows ++ r ∷ [])) ≡ or_else (cond t (Some n) (position_from p (n + 1) rows)) (cond (p r) (Some (n + suc (length rows))) None)
    at rest true = refl
    at rest false =
        let k : n + 1 + length rows ≡ n + suc (length rows) = omega arith in rest
        ∙ ap (λ (m : ℕ). or_else (position_from p (n + 1) rows) (cond (p r) (Some m) None)) k

push_place : (rows : List Row) (r : Row) (text : List ℕ)
    → with_subject (rows ++ r ∷ []) text ≡ or_else (with_subject rows text) (cond (bytes_eq r.1 text) (Some (length rows)) None)
push_place rows r text =
    from_push (λ r. bytes_eq r.1 text) 0 rows r
    ∙ (let k : 0 + length rows ≡ length rows = omega arith in ap (λ (m : ℕ). or_else (with_subject rows text) (cond (bytes_eq r.1 text) (Some m) None)) k)

-- the subject was there before
pub row_known : (rows : List Row) (hex key : List ℕ) (subjects : BTreeMap (List ℕ) ℕ) → AreRows rows subjects → is_some (with_subject rows key) ≡ true
    → AreRows (rows ++ (hex, key) ∷ []) subjects
row_known rows hex key subjects was there =
    record { first = λ text. was.first text ∙ at text (bytes_eq key text) refl ∙ sym (push_place rows (hex, key) text) }
  where
    taken : (v other : Option ℕ) → is_some v ≡ true → v ≡ or_else v other
    taken (Some n) other e = refl
    taken None other e = absurd cc

    at : (text : List ℕ) (t : Bool) → bytes_eq key text ≡ t
        → with_subject rows text ≡ or_else (with_subject rows text) (cond (bytes_eq key text) (Some (length rows)) None)
    at text true e =
        let same : key ≡ text = (bytes_eq-Decides key text).0 e in
        taken (with_subject rows text) _ (ap (λ (k : List ℕ). is_some (with_subject rows k)) (sym same) ∙ there)
    at text false e = rw e (sym (or_none (with_subject rows text)))

-- it is new
pub row_new : (rows : List Row) (hex key : List ℕ) (subjects after : BTreeMap (List ℕ) ℕ) (place : ℕ) → AreRows rows subjects
    → is_some (with_subject rows key) ≡ false → place ≡ length rows
    → ((text : List ℕ) → get (slice_cmp nat_cmp) after text ≡ cond (is_at (slice_cmp nat_cmp key) text) (Some place) (get (slice_cmp nat_cmp) subjects text)) → AreRows (rows ++ (hex, key) ∷ []) after
row_new rows hex key subjects after place was new is puts = record {
  first =
      λ text. puts text ∙ ap (λ (b : Bool). cond b (Some place) (get (slice_cmp nat_cmp) subjects text)) (is_eq-slice_cmp key text)
      ∙ at text (bytes_eq key text) refl ∙ sym (push_place rows (hex, key) text);
}
  where
    none : (v : Option ℕ) → is_some v ≡ false → v ≡ None
    none None e = refl
    none (Some n) e = absurd cc

    at : (text : List ℕ) (t : Bool) → bytes_eq key text ≡ t
        → cond (bytes_eq key text) (Some place) (get (slice_cmp nat_cmp) subjects text) ≡ or_else (with_subject rows text) (cond (bytes_eq key text) (Some (length rows)) None)
    at text true e =
        let same : key ≡ text = (bytes_eq-Decides key text).0 e in
        let gone : with_subject rows text ≡ None = none (with_subject rows text) (ap (λ (k : List ℕ). is_some (with_subject rows k)) (sym same) ∙ new) in
        rw (e, gone) (ap Some is)
    at text false e = rw e (was.first text ∙ sym (or_none (with_subject rows text)))

-- ---- which of them a text is meant for

pub by_subject : (rows : List Row) (text : List ℕ) (n : ℕ) → with_subject rows text ≡ Some n → target rows text ≡ Some n
by_subject rows text n e = ap (λ (v : Option ℕ). or_else v (or_else (with_digits rows text) (with_start rows text))) e

pub by_front : (rows : List Row) (text : List ℕ) → with_subject rows text ≡ None
    → target rows text ≡ or_else (with_digits rows text) (with_start rows text)
by_front rows text none = ap (λ (v : Option ℕ). or_else v (or_else (with_digits rows text) (with_start rows text))) none

from_within : (p : Row → Bool) (n : ℕ) (rows : List Row) (k : ℕ) → position_from p n rows ≡ Some k → k < n + length rows
from_within p n [] k e = absurd cc
from_within p n (x ∷ rows) k e = step (from_within p (n + 1) rows k) (p x) e
  where
    step : (position_from p (n + 1) rows ≡ Some k → k < n + 1 + length rows) → (t : Bool) → cond t (Some n) (position_from p (n + 1) rows) ≡ Some k
        → k < n + suc (length rows)
    step rest true e = let is : n ≡ k = cc in omega arith
    step rest false e = let l = rest e in omega (arith, l)

either_within : (a b : Option ℕ) (m k : ℕ) → (a ≡ Some k → k < m) → (b ≡ Some k → k < m) → or_else a b ≡ Some k → k < m
either_within None b m k f g e = g e
either_within (Some n) b m k f g e = f e

-- it is one of them
target_within : (rows : List Row) (text : List ℕ) (k : ℕ) → target rows text ≡ Some k → k < length rows
target_within rows text k e =
    either_within (with_subject rows text) (or_else (with_digits rows text) (with_start rows text)) (length rows) k (λ f. found (λ r. bytes_eq r.1 text) f)
    (λ f. either_within (with_digits rows text) (with_start rows text) (length rows) k (λ g. digits (nat_le 4 (length text)) g) (λ g. found (λ r. begins_with r.1 text) g) f) e
  where
    found : (p : Row → Bool) → position_from p 0 rows ≡ Some k → k < length rows
    found p f = let l = from_within p 0 rows k f in omega (arith, l)

    digits : (t : Bool) → cond t (first_row (λ r. begins_with r.0 text) rows) None ≡ Some k → k < length rows
    digits true f = found (λ r. begins_with r.0 text) f
    digits false f = absurd cc

pub found_within : (rows : List Row) (text : List ℕ) (found : Option ℕ) → found ≡ target rows text → IfSome found (λ number. number < length rows)
found_within rows text None e = tt
found_within rows text (Some n) e = target_within rows text n (sym e)
