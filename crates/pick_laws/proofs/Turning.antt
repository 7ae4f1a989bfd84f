-- What steps that were all taken left.
use Rattle.std.proofs.Common.{◌≡◌, ◌≢◌, Bool, true, false, cond, Some, Result, Ok, Err, refl, sym, ap, ◌∙◌}
use Rattle.std.specs.FinMap as map
use Rattle.std.specs.FinMap.{get-insert}
use Rattle.std.specs.Cmp.Lexicographic.{nat_list_cmp_total}
use Rattle.std.specs.Ordering.{eq_by_cmp}
use Rattle.std.proofs.lemmas.Bool.{false_from_ne_true}
use Rattle.seq_base.specs.Words.{Text}
use Rattle.seq_base.specs.World.{World, is_blocked, path_cmp}
use Rattle.seq_base.proofs.Shape.{equal_to_itself, same_path}
use Rattle.seq_outside.proofs.Turning.{same_answer, same_world}
use Rattle.seq_outside.specs.Turns.{◌>>=◌, Turn, go_on, looked, put_in, saying, turn_for}
use Rattle.seq_outside.specs.declared.lack.Lack.{Lack}
use Rattle.seq_outside.specs.declared.lack.Lack.TheVariants.{Way}

-- the first of two steps, and the second
pub record Bound {E X Y : Type 0} (step : Turn E X) (next : X → Turn E Y) (w : World) (y : Y) (v : World) : Type 0 where
  pub given : X
  pub between : World
  pub first : step w ≡ (Ok given, between)
  pub then : next given between ≡ (Ok y, v)

pub bound : {E X Y : Type 0} (step : Turn E X) (next : X → Turn E Y) (w : World) (y : Y) (v : World) → (step >>= next) w ≡ (Ok y, v)
    → Bound step next w y v
bound {E} {X} {Y} step next w y v e = at (step w) refl e
  where
    at : (s : Result X E × World) → step w ≡ s → go_on s next ≡ (Ok y, v) → Bound step next w y v
    at (Ok x, u) is e = record { given = x; between = u; first = is; then = e }
    at (Err why, u) is e = let never = same_answer e in absurd cc

-- a step that is told otherwise where it stops
pub said : {E F X : Type 0} (told : E → F) (step : Turn E X) (w : World) (x : X) (v : World) → saying told step w ≡ (Ok x, v) → step w ≡ (Ok x, v)
said {E} {F} {X} told step w x v e = at (step w) e
  where
    at : (s : Result X E × World) → turn_for told s ≡ (Ok x, v) → s ≡ (Ok x, v)
    at (Ok y, u) e =
        let answer = same_answer e in
        let is : y ≡ x = cc in
        let here = same_world e in
        rw (is, here) refl
    at (Err why, u) e = let never = same_answer e in absurd cc

abbrev done : {A E : Type 0} → A → Result A E
done x = Ok x

pub ok_is : {A E : Type 0} (x y : A) → done {E = E} x ≡ done y → x ≡ y
ok_is x y e = cc

-- one answer and one world
pub answer_is : {E X : Type 0} (x y : X) (w v : World) → ◌≡◌ {A = Result X E × World} (Ok x, w) (Ok y, v) → x ≡ y
answer_is {E} {X} x y w v e = ok_is {A = X} {E = E} x y (same_answer e)

pub both_are : {E X : Type 0} (x y : X) (w v : World) → ◌≡◌ {A = Result X E × World} (Ok x, w) (Ok y, v) → ◌≡◌ {A = X × World} (x, w) (y, v)
both_are {E} {X} x y w v e =
    let answer = answer_is {E = E} x y w v e in
    let here = same_world e in
    rw (answer, here) refl

-- what was looked at
pub looked_at : {E X : Type 0} (r : Result X E) (w : World) (x : X) (v : World) → looked r w ≡ (Ok x, v) → (r ≡ Ok x) × (w ≡ v)
looked_at r w x v e = (same_answer e, same_world e)

-- a file that was put
pub was_put : (path bytes : Text) (w v : World) → put_in path bytes w ≡ (Ok tt, v) → v ≡ map.insert w path bytes
unfolding put_in
was_put path bytes w v e = at (is_blocked w path) e
  where
    at : (b : Bool) → cond {A = Result (Unit {0}) Lack × World} b (Err (Way path), w) (Ok tt, map.insert w path bytes) ≡ (Ok tt, v)
        → v ≡ map.insert w path bytes
    at true e = let never = same_answer e in absurd cc
    at false e = sym (same_world e)

pub put_here : (w : World) (path bytes : Text) → map.get (map.insert w path bytes) path ≡ Some bytes
put_here w path bytes =
    get-insert nat_list_cmp_total w path bytes path ∙ ap (λ (b : Bool). cond b (Some bytes) (map.get w path)) (equal_to_itself path)

pub put_there : (w : World) (path bytes q : Text) → q ≢ path → map.get (map.insert w path bytes) q ≡ map.get w q
put_there w path bytes q other =
    get-insert nat_list_cmp_total w path bytes q ∙ ap (λ (b : Bool). cond b (Some bytes) (map.get w q)) (false_from_ne_true (eq_by_cmp path_cmp q path) (λ is. other (same_path q path is)))
