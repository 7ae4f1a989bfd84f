-- Two steps that come to the same from a spot.
use Rattle.std.proofs.Common.{◌≡◌, ℤ, Ok, Err, ap, sym, ◌∙◌}
use Rattle.std.specs.Prelude.{Result}
use Rattle.seq_outside.specs.Child.{Noted}
use Rattle.seq_outside.specs.Doing.{Does, End, Spot, Step}
use Rattle.seq_outside.specs.Follows.{Comes, Follows}
use Rattle.seq_outside.specs.Tape.{Coming, asks, coming}
use Rattle.seq_outside.specs.declared.halt.Halt.{Halt}
use Rattle.seq_outside.specs.declared.halt.Halt.TheVariants.{Stops, Fault, Memory}

module _ {A C P E : Type 0} (ran : A → Noted → A → Type 0) (ticked : C → ℤ → C → Type 0) (a : A) (c : C) (a' : A) (c' : C) where
  pub comes_as : {Y : Type 0} (does also : Does P E Y) (old : Spot P) (end : End E Y) (new : Spot P)
      → ((events : Coming) → also old events ≡ does old events) → Comes ran ticked a c a' c' does old end new → Comes ran ticked a c a' c' also old end new
  comes_as {Y} does also old end new same comes q d rest sees =
      let told = comes q d rest sees in
      let is = same (coming told.this) in
      record {
        this = told.this;
        is = told.is;
        ends = ap (λ (s : Step P E Y). s.end) is ∙ told.ends;
        spot = ap (λ (s : Step P E Y). s.spot) is ∙ told.spot;
        left = ap (λ (s : Step P E Y). s.coming) is ∙ told.left;
        asked = told.asked ∙ sym (ap (λ (s : Step P E Y). s.asked (asks rest)) is);
      }

  pub follows_as : {X Y : Type 0} (view : X → Y) (does also : Does P E Y) (old : Spot P) (result : Result X (Halt E)) (new : Spot P)
      → ((events : Coming) → also old events ≡ does old events) → Follows ran ticked a c a' c' view does old result new
      → Follows ran ticked a c a' c' view also old result new
  follows_as {X} {Y} view does also old (Ok x) new same follows = comes_as does also old _ new same follows
  follows_as {X} {Y} view does also old (Err (Stops why)) new same follows = comes_as does also old _ new same follows
  follows_as {X} {Y} view does also old (Err Fault) new same follows = tt
  follows_as {X} {Y} view does also old (Err Memory) new same follows = tt
