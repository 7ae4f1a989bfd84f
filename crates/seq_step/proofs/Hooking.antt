-- A hook that is there.
use Rattle.std.proofs.Common.{◌≡◌, ℤ, true, Ok, ap, subst}
use Rattle.std.specs.Prelude.{Bool, List, Result, if◌then◌else◌}
use Rattle.child_jobs.specs.Jobs.{hook_of}
use Rattle.child_steps.proofs.Following.{follows_as}
use Rattle.line_steps.specs.Hooks.{has_hook, hook_does, hook_ends}
use Rattle.line_steps.specs.declared.place.Place.{Place}
use Rattle.line_steps.specs.declared.stop.Stop.{Stop}
use Rattle.seq_base.specs.Words.{Name, Text}
use Rattle.seq_base.specs.World.{World}
use Rattle.seq_outside.specs.Child.{Noted}
use Rattle.seq_outside.specs.Doing.{◌>>=◌, Spot, gives, looked}
use Rattle.seq_outside.specs.Follows.{Follows}
use Rattle.seq_outside.specs.Tape.{Coming}
use Rattle.seq_outside.specs.declared.halt.Halt.{Halt}

module _ {A C : Type 0} (ran : A → Noted → A → Type 0) (ticked : C → ℤ → C → Type 0) (a : A) (c : C) (a' : A) (c' : C) where
  there_ends : (name : Name) (arguments : List Text) (input : Text) (old : Spot Place) (events : Coming) → has_hook name old.world ≡ Ok true
      → hook_does name arguments input old events ≡ hook_ends (hook_of name arguments input) old events
  unfolding hook_does
  there_ends name arguments input old events there =
      ap (λ (found : Result Bool Stop). (looked {P = Place} {E = Stop} {X = Bool} found >>= λ there. if there then hook_ends (hook_of name arguments input) else gives tt) old events) there

  -- a hook that was found is run
  pub hook_there : (name : Name) (arguments : List Text) (input : Text) (w v : World) (place : Place) (result : Result (Unit {0}) (Halt Stop)) (new : Spot Place)
      → has_hook name w ≡ Ok true → v ≡ w
      → Follows ran ticked a c a' c' (λ x. x) (hook_ends (hook_of name arguments input)) (record { world = v; place = place }) result new
      → Follows ran ticked a c a' c' (λ x. x) (hook_does name arguments input) (record { world = w; place = place }) result new
  hook_there name arguments input w v place result new there same follows =
      follows_as ran ticked a c a' c' (λ x. x) (hook_ends (hook_of name arguments input)) (hook_does name arguments input) (record { world = w; place = place }) result new
      (λ events. there_ends name arguments input (record { world = w; place = place }) events there)
      (subst (λ (u : World). Follows ran ticked a c a' c' (λ x. x) (hook_ends (hook_of name arguments input)) (record { world = u; place = place }) result new) same follows)
