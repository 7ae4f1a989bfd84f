-- A child of a job, and a hook that is there.
use Rattle.std.proofs.Common.{◌≡◌, ℤ, true, [], Ok, ap, subst}
use Rattle.std.specs.Prelude.{Bool, List, Result, if◌then◌else◌}
use Rattle.child_jobs.specs.Jobs.{hook_of}
use Rattle.seq_base.specs.Words.{Name, Text}
use Rattle.seq_base.specs.World.{World}
use Rattle.seq_outside.specs.Child.{Noted}
use Rattle.seq_outside.specs.Doing.{◌>>=◌, Spot, gives, looked}
use Rattle.seq_outside.specs.Follows.{Follows}
use Rattle.seq_outside.specs.Tape.{Coming}
use Rattle.seq_outside.specs.declared.halt.Halt.{Halt}
use Rattle.seq_outside.specs.declared.child.Job.{Job}
use Rattle.child_steps.proofs.Following.{follows_as}
use Rattle.child_steps.specs.Children.{asked, has_hook, hook_asked}
use Rattle.child_steps.specs.declared.child.ChildEnd.{ChildEnd}

module _ {A C : Type 0} (ran : A → Noted → A → Type 0) (ticked : C → ℤ → C → Type 0) (a : A) (c : C) (a' : A) (c' : C) where
  -- the same job
  pub asked_for : (job same : Job) (old : Spot Bool) (result : Result (Unit {0}) (Halt ChildEnd)) (new : Spot Bool) → job ≡ same
      → Follows ran ticked a c a' c' (λ x. x) (asked job) old result new → Follows ran ticked a c a' c' (λ x. x) (asked same) old result new
  asked_for job same old result new is follows = subst (λ (j : Job). Follows ran ticked a c a' c' (λ x. x) (asked j) old result new) is follows

  there_asked : (name : Name) (arguments : List Text) (old : Spot Bool) (events : Coming) → has_hook name old.world ≡ Ok true
      → hook_asked name arguments old events ≡ asked (hook_of name arguments []) old events
  unfolding hook_asked
  there_asked name arguments old events there =
      ap (λ (found : Result Bool ChildEnd). (looked {P = Bool} {E = ChildEnd} {X = Bool} found >>= λ there. if there then asked (hook_of name arguments []) else gives tt) old events) there

  -- a hook that was found is asked
  pub hook_there : (name : Name) (arguments : List Text) (w v : World) (place : Bool) (result : Result (Unit {0}) (Halt ChildEnd)) (new : Spot Bool)
      → has_hook name w ≡ Ok true → v ≡ w
      → Follows ran ticked a c a' c' (λ x. x) (asked (hook_of name arguments [])) (record { world = v; place = place }) result new
      → Follows ran ticked a c a' c' (λ x. x) (hook_asked name arguments) (record { world = w; place = place }) result new
  hook_there name arguments w v place result new there same follows =
      follows_as ran ticked a c a' c' (λ x. x) (asked (hook_of name arguments [])) (hook_asked name arguments) (record { world = w; place = place }) result new
      (λ events. there_asked name arguments (record { world = w; place = place }) events there)
      (subst (λ (u : World). Follows ran ticked a c a' c' (λ x. x) (asked (hook_of name arguments [])) (record { world = u; place = place }) result new) same follows)
