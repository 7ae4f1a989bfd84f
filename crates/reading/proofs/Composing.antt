-- The parts of a turn compose, and what they come to is read.
use Rattle.std.proofs.Common.{◌≡◌, ℤ, [], refl, ◌∙◌, ap}
use Rattle.seq_outside.specs.Child.{Noted}
use Rattle.seq_outside.specs.Doing.{◌>>=◌, Does, End, Goes, Spot, Stops}
use Rattle.seq_outside.specs.Follows.{Comes, Saw}
use Rattle.seq_outside.specs.Tape.{asks, coming}
use Rattle.seq_outside.proofs.Seeing.{sees_nothing}
use Rattle.state_text.specs.declared.control.Control.{Control}
use Rattle.state_text.specs.declared.control.Left.{Left}
use Rattle.line_steps.specs.declared.place.Place.{Place}
use Rattle.reading.specs.Readings.{ending_of, read_by}
use Rattle.reading.specs.Stages.{Pause}

module _ {A C P E X Y : Type 0} (ran : A → Noted → A → Type 0) (ticked : C → ℤ → C → Type 0) (a a' : A) (c c' : C)
    (first : Does P E X) (next : X → Does P E Y) (old mid : Spot P) where
  -- a step that goes on, and the next one
  pub then : (a'' : A) (c'' : C) (x : X) (end : End E Y) (new : Spot P)
      → Comes ran ticked a c a' c' first old (Goes x) mid → Comes ran ticked a' c' a'' c'' (next x) mid end new
      → Comes ran ticked a c a'' c'' (first >>= next) old end new
  then a'' c'' x end new one two q d rest sees =
      let later = two q d rest sees in
      let here = one q d later.this later.is in
      record {
        this = here.this;
        is = here.is;
        ends = rw (here.ends, here.spot, here.left) later.ends;
        spot = rw (here.ends, here.spot, here.left) later.spot;
        left = rw (here.ends, here.spot, here.left) later.left;
        asked = rw (here.ends, here.spot, here.left) (here.asked ∙ ap (first old (coming here.this)).asked later.asked);
      }

  -- a step that stops
  pub stopped : (why : E) → Comes ran ticked a c a' c' first old (Stops why) mid → Comes ran ticked a c a' c' (first >>= next) old (Stops why) mid
  stopped why one q d rest sees =
      let here = one q d rest sees in
      record {
        this = here.this;
        is = here.is;
        ends = rw here.ends refl;
        spot = rw here.ends here.spot;
        left = rw here.ends here.left;
        asked = rw here.ends here.asked;
      }

module _ {A C : Type 0} (ran : A → Noted → A → Type 0) (ticked : C → ℤ → C → Type 0) (a a' : A) (c c' : C) (k : Control) (left : Left) where
  -- what a turn comes to is read of what was seen in it
  pub read_so : (does : Does Place Pause (Unit {0})) (old new : Spot Place) (end : End Pause (Unit {0}))
      → Comes ran ticked a c a' c' does old end new
      → Saw ran ticked a c a' c' (λ this. read_by k left (does old (coming this)) ≡ record { ending = ending_of k left end new; asked = asks this })
  read_so does old new end comes =
      let here = comes a' c' [] (sees_nothing ran ticked a' c') in
      record { this = here.this; sees = here.is; so = rw (here.ends, here.spot, here.left, here.asked) refl }
