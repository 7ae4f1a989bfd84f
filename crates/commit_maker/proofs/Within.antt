-- A step that knows a part of the place alone.
use Rattle.std.proofs.Common.{ℤ, Ok, Err, ap}
use Rattle.std.specs.Prelude.{Result}
use Rattle.seq_base.specs.World.{World}
use Rattle.seq_outside.specs.Child.{Noted}
use Rattle.seq_outside.specs.Doing.{Does, End, Spot, spot_within, within}
use Rattle.seq_outside.specs.Follows.{Comes, Follows}
use Rattle.seq_outside.specs.declared.halt.Halt.{Halt}
use Rattle.seq_outside.specs.declared.halt.Halt.TheVariants.{Stops, Fault, Memory}

module _ {A C P Q E : Type 0} (ran : A → Noted → A → Type 0) (ticked : C → ℤ → C → Type 0) (a : A) (c : C) (a' : A) (c' : C) (part : P → Q) (put : Q → P → P) where
  comes_within : {Y : Type 0} (does : Does Q E Y) (w v : World) (place : P) (left : Q) (end : End E Y)
      → Comes ran ticked a c a' c' does (record { world = w; place = part place }) end (record { world = v; place = left })
      → Comes ran ticked a c a' c' (within part put does) (record { world = w; place = place }) end (record { world = v; place = put left place })
  comes_within {Y} does w v place left end comes q d rest sees =
      let told = comes q d rest sees in
      record {
        this = told.this;
        is = told.is;
        ends = told.ends;
        spot = ap (λ (s : Spot Q). spot_within put place s) told.spot;
        left = told.left;
        asked = told.asked;
      }

  pub follows_within : {X Y : Type 0} (view : X → Y) (does : Does Q E Y) (w v : World) (place : P) (left : Q) (result : Result X (Halt E))
      → Follows ran ticked a c a' c' view does (record { world = w; place = part place }) result (record { world = v; place = left })
      → Follows ran ticked a c a' c' view (within part put does) (record { world = w; place = place }) result (record { world = v; place = put left place })
  follows_within {X} {Y} view does w v place left (Ok x) follows = comes_within does w v place left _ follows
  follows_within {X} {Y} view does w v place left (Err (Stops why)) follows = comes_within does w v place left _ follows
  follows_within {X} {Y} view does w v place left (Err Fault) follows = tt
  follows_within {X} {Y} view does w v place left (Err Memory) follows = tt
