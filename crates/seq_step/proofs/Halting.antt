-- Stops that are told.
use Rattle.std.proofs.Common.{◌≡◌, ℤ, refl, sym, ap, ◌∙◌}
use Rattle.seq_outside.specs.Child.{Noted}
use Rattle.seq_outside.specs.Doing.{Does, End, Spot, Stops, end_for, saying, stops}
use Rattle.seq_outside.specs.Follows.{Comes}

abbrev stopping : (E X : Type 0) → E → End E X
stopping E X why = Stops why

module _ {A C P : Type 0} (ran : A → Noted → A → Type 0) (ticked : C → ℤ → C → Type 0) (a : A) (c : C) (a' : A) (c' : C) where
  -- a reason that is told otherwise
  pub said : {E F X : Type 0} (told : E → F) (step : Does P E X) (old new : Spot P) (why : E) (stop : F) → stop ≡ told why
      → Comes ran ticked a c a' c' step old (Stops why) new → Comes ran ticked a c a' c' (saying told step) old (Stops stop) new
  said {E} {F} {X} told step old new why stop is comes q d rest sees =
      let found = comes q d rest sees in
      record {
        this = found.this;
        is = found.is;
        ends = ap (λ (end : End E X). end_for told end) found.ends ∙ ap (stopping F X) (sym is);
        spot = found.spot;
        left = found.left;
        asked = found.asked;
      }

module _ {A C P : Type 0} (ran : A → Noted → A → Type 0) (ticked : C → ℤ → C → Type 0) (a : A) (c : C) where
  -- the stop of a step that stops at once
  pub stopped_so : {E X : Type 0} (why stop : E) (old : Spot P) → stop ≡ why
      → Comes ran ticked a c a c (stops {P = P} {X = X} why) old (Stops stop) old
  stopped_so {E} {X} why stop old is q d rest sees =
      record { this = rest; is = sees; ends = ap (stopping E X) (sym is); spot = refl; left = refl; asked = refl }
