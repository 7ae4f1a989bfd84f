-- What the marks of a path mean: some text that begins at a marked place fits.
use Rattle.std.proofs.Common.{◌≡◌, ℕ, suc, Bool, true, false, List, [], ◌∷◌, length, refl, ap, ◌∙◌, arith}
use Rattle.std.specs.Prelude.{◌&&◌, ◌||◌}
use Rattle.attr_rules.specs.Pieces.{Piece}
use Rattle.attr_rules.specs.Reach.{followed, goes_on, may_be_empty, may_end, may_go_on, later_marks, marks_behind}

-- what is asked for holds at a marked place behind the first
abbrev pub holds_later : List Bool → List ℕ → (List ℕ → Bool) → Bool
holds_later [] path q = false
holds_later (mark ∷ marks) [] q = false
holds_later (mark ∷ marks) (b ∷ path) q = (mark && q path) || holds_later marks path q

abbrev pub holds : List Bool → List ℕ → (List ℕ → Bool) → Bool
holds [] path q = false
holds (mark ∷ marks) path q = (mark && q path) || holds_later marks path q

step : (e m n w q o r : Bool) (begun : Bool)
    → ((((e && m) || (begun && n)) && q) || (((m || (begun && w)) && o) || r)) ≡ ((begun && ((n && q) || (w && o))) || ((m && ((e && q) || o)) || r))
step e true n w q o r true = grind arith
step e true n w q o r false = grind arith
step e false n w q o r true = grind arith
step e false n w q o r false = grind arith

first_step : (e m q o r : Bool) → (((e && m) && q) || ((m && o) || r)) ≡ ((m && ((e && q) || o)) || r)
first_step e true q o r = grind arith
first_step e false q o r = grind arith

pub holds_later_behind : (p : Piece) (begun : Bool) (marks : List Bool) (path : List ℕ) (q : List ℕ → Bool) → length marks ≡ length path
    → holds_later (later_marks p begun marks path) path q ≡ ((begun && goes_on p q path) || holds_later marks path (followed p q))
unfolding later_marks
holds_later_behind p true [] [] q e = refl
holds_later_behind p false [] [] q e = refl
holds_later_behind p begun [] (b ∷ path) q e = cc
holds_later_behind p begun (m ∷ marks) [] q e = cc
holds_later_behind p begun (m ∷ marks) (b ∷ path) q e =
    ap (λ (r : Bool). (((may_be_empty p && m) || (begun && may_end p b)) && q path) || r) (holds_later_behind p (m || (begun && may_go_on p b)) marks path q (cc))
    ∙ step (may_be_empty p) m (may_end p b) (may_go_on p b) (q path) (goes_on p q path) (holds_later marks path (followed p q)) begun

pub holds_behind : (p : Piece) (marks : List Bool) (path : List ℕ) (q : List ℕ → Bool) → length marks ≡ suc (length path)
    → holds (marks_behind p marks path) path q ≡ holds marks path (followed p q)
holds_behind p [] path q e = cc
holds_behind p (m ∷ marks) path q e =
    ap (λ (r : Bool). ((may_be_empty p && m) && q path) || r) (holds_later_behind p m marks path q (cc))
    ∙ first_step (may_be_empty p) m (q path) (goes_on p q path) (holds_later marks path (followed p q))
