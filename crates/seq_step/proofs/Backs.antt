-- A step after which index and files may go back.
use Rattle.std.proofs.Common.{◌≡◌, ℤ, ap, sym, ◌∙◌}
use Rattle.seq_base.specs.World.{World}
use Rattle.seq_outside.specs.Child.{Noted}
use Rattle.seq_outside.specs.Doing.{End, Goes, Spot, Step, Stops}
use Rattle.seq_outside.specs.Follows.{Comes}
use Rattle.seq_outside.specs.Tape.{asks, coming}
use Rattle.line_steps.specs.Picks.{back_if, end_back, or_back}
use Rattle.line_steps.specs.Places.{Doing}
use Rattle.line_steps.specs.declared.place.Place.{Place}
use Rattle.line_steps.specs.declared.stop.Stop.{Stop}

-- where a list stands, with its world put back as the stop has it
abbrev put_back : (World → World) → Stop → Spot Place → Spot Place
put_back back stop s = record { world = back_if back stop s.world; place = s.place }

abbrev over : Place → World → Spot Place
over place w = record { world = w; place = place }

module _ {A C : Type 0} (ran : A → Noted → A → Type 0) (ticked : C → ℤ → C → Type 0) (a : A) (c : C) (a' : A) (c' : C) where
  -- where it goes on nothing goes back
  pub went : {X : Type 0} (back : World → World) (step : Doing X) (old new : Spot Place) (x : X)
      → Comes ran ticked a c a' c' step old (Goes x) new → Comes ran ticked a c a' c' (or_back back step) old (Goes x) new
  went {X} back step old new x comes q d rest sees =
      let told = comes q d rest sees in
      let first = step old (coming told.this) in
      let same = ap (λ (end : End Stop X). end_back back end first) told.ends in
      record {
        this = told.this;
        is = told.is;
        ends = ap (λ (s : Step Place Stop X). s.end) same ∙ told.ends;
        spot = ap (λ (s : Step Place Stop X). s.spot) same ∙ told.spot;
        left = ap (λ (s : Step Place Stop X). s.coming) same ∙ told.left;
        asked = told.asked ∙ sym (ap (λ (s : Step Place Stop X). s.asked (asks rest)) same);
      }

  -- where it stops they go back as the stop has it
  pub stopped : {X : Type 0} (back : World → World) (step : Doing X) (old mid : Spot Place) (stop : Stop) (w : World)
      → Comes ran ticked a c a' c' step old (Stops stop) mid → w ≡ back_if back stop mid.world
      → Comes ran ticked a c a' c' (or_back back step) old (Stops stop) (record { world = w; place = mid.place })
  stopped {X} back step old mid stop w comes is q d rest sees =
      let told = comes q d rest sees in
      let first = step old (coming told.this) in
      let same = ap (λ (end : End Stop X). end_back back end first) told.ends in
      let put = ap (put_back back stop) told.spot in
      record {
        this = told.this;
        is = told.is;
        ends = ap (λ (s : Step Place Stop X). s.end) same ∙ told.ends;
        spot = ap (λ (s : Step Place Stop X). s.spot) same ∙ put ∙ ap (over mid.place) (sym is);
        left = ap (λ (s : Step Place Stop X). s.coming) same ∙ told.left;
        asked = told.asked ∙ sym (ap (λ (s : Step Place Stop X). s.asked (asks rest)) same);
      }
