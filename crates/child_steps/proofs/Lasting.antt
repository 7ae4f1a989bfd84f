-- What lasts over one call and the next, and what rose in one of them.
use Rattle.std.proofs.Common.{◌⊎◌, ℕ, ◌≤◌, Ok, Err, ◌∙◌, arith, inl, inr}
use Rattle.std.specs.Prelude.{Bool, Result}
use Rattle.seq_outside.specs.Causes.{Rose}
use Rattle.seq_outside.specs.Child.{Serves, Spawns}
use Rattle.seq_outside.specs.Seen.{HasFault, Lasts, Seen}
use Rattle.seq_outside.specs.declared.halt.Halt.{Halt}
use Rattle.seq_outside.specs.declared.halt.Halt.TheVariants.{Stops, Fault, Memory}
use Rattle.child_steps.specs.Causes.{HasStepCause}

-- what rose later rose from the start
pub rose_later : (a b c : ℕ) → a ≤ b → Rose b c → Rose a c
rose_later a b c grows rose = omega arith

pub either_later : (a b c d e f : ℕ) → a ≤ b → d ≤ e → Rose b c ⊎ Rose e f → Rose a c ⊎ Rose d f
either_later a b c d e f grows rises (inl rose) = inl (rose_later a b c grows rose)
either_later a b c d e f grows rises (inr rose) = inr (rose_later d e f rises rose)

pub lasts_on : (a b c : Seen) → Lasts a b → Lasts b c → Lasts a c
lasts_on a b c first then =
    let f0 = first.0 in
    let f1 = first.1 in
    let f3 = first.3 in
    let t0 = then.0 in
    let t1 = then.1 in
    let t3 = then.3 in
    (omega (arith, f0, t0), omega (arith, f1, t1), then.2 ∙ first.2, omega (arith, f3, t3))

pub serves_on : (a b c : Spawns) → Serves a b → Serves b c → Serves a c
serves_on a b c first then =
    let f0 = first.0 in
    let t0 = then.0 in
    (omega (arith, f0, t0), then.1 ∙ first.1)

-- a fault of the store later is one from the start
pub fault_later : (told : Type 0) (a b c : Seen) → Lasts a b → HasFault told b c → HasFault told a c
fault_later told a b c lasts fault = (
  either_later a.faults b.faults c.faults a.blocked b.blocked c.blocked lasts.0 lasts.1 fault.0,
  λ t. rose_later a.faults b.faults c.faults lasts.0 (fault.1 t),
)

-- a step behind a call has the cause that it has
pub cause_later : {E X : Type 0} (told : Type 0) (failed : E → Bool) (result : Result X (Halt E)) (a b c : Seen) (k l m : Spawns) → Lasts a b
    → Serves k l → HasStepCause told failed result b c l m → HasStepCause told failed result a c k m
cause_later {E} {X} told failed (Ok x) a b c k l m lasts serves then = (lasts_on a b c lasts then.0, serves_on k l m serves then.1)
cause_later {E} {X} told failed (Err (Stops why)) a b c k l m lasts serves then =
    (lasts_on a b c lasts then.0, serves_on k l m serves then.1, λ is. rose_later k.faults l.faults m.faults serves.0 (then.2 is))
cause_later {E} {X} told failed (Err Fault) a b c k l m lasts serves then =
    (lasts_on a b c lasts then.0, serves_on k l m serves then.1, fault_later told a b c lasts then.2)
cause_later {E} {X} told failed (Err Memory) a b c k l m lasts serves then = (lasts_on a b c lasts then.0, serves_on k l m serves then.1)
