-- What was seen of drivers, as the merge answers it.
use Rattle.std.proofs.Common.{◌≡◌, ◌⊎◌, ℕ, ℤ, ◌≤◌, List, [], Some, None, Ok, Err, refl, subst, ◌∙◌, arith, inl, inr}
use Rattle.std.specs.Prelude.{Result}
use Rattle.std.specs.Global.{Vec}
use Rattle.seq_outside.specs.Causes.{Rose}
use Rattle.seq_outside.specs.Child.{Noted, Serves, Spawns}
use Rattle.seq_outside.specs.Doing.{Goes}
use Rattle.seq_outside.specs.Follows.{Comes}
use Rattle.seq_outside.specs.Halts.{halt_cause}
use Rattle.seq_outside.specs.Seen.{HasReadCause, Lasts, Seen, Stays}
use Rattle.seq_outside.specs.Seen.Cause.{ByNone}
use Rattle.seq_outside.specs.declared.halt.Halt.{Halt}
use Rattle.seq_outside.specs.declared.halt.Halt.TheVariants as halt
use Rattle.seq_outside.specs.declared.lack.Lack.{Lack}
use Rattle.driver_pool.specs.Drives.{drivers_end}
use Rattle.driver_pool.specs.Pools.{RunsDrivers, StaysCalm}
use Rattle.driver_pool.specs.declared.end.DriverEnd.{DriverEnd}
use Rattle.driver_pool.specs.declared.end.PoolFault.{PoolFault}
use Rattle.driver_pool.specs.declared.end.PoolFault.TheVariants.{Child, Memory}
use Rattle.driver_pool.specs.declared.job.DriverJob.{DriverJob}
use Rattle.driver_pool.proofs.Seeing.{drivers_ended, drivers_unrun}
use Rattle.content_merge.specs.Causes.{HasMergeCause, IsStill, StaysStill}
use Rattle.content_merge.specs.Merging.{at_world}

module _ {A C : Type 0} (ran : A → Noted → A → Type 0) (ticked : C → ℤ → C → Type 0) (told : Type 0) (jobs : List DriverJob) (p p' : A) (c : C) (old new : Seen) where
  pub follows_ended : (ends : Vec DriverEnd) → RunsDrivers told ran jobs p old (Ok ends) p' new → told
      → Comes {P = Unit {0}} {E = Lack} ran ticked p c p' c (drivers_end jobs) (at_world old.content) (Goes (Some ends.items)) (at_world new.content)
  follows_ended ends r t = drivers_ended ran ticked told t jobs p p' c old new tt ends r

  pub follows_unrun : (e : PoolFault) → e ≡ Child → RunsDrivers told ran jobs p old (Err e) p' new → told
      → Comes {P = Unit {0}} {E = Lack} ran ticked p c p' c (drivers_end jobs) (at_world old.content) (Goes None) (at_world new.content)
  follows_unrun e is r t =
      drivers_unrun ran ticked told t jobs p p' c old new tt (subst (λ (x : PoolFault). RunsDrivers told ran jobs p old (Err x) p' new) is r)

module _ {A : Type 0} (ran : A → Noted → A → Type 0) (told : Type 0) (jobs : List DriverJob) (p p' : A) (old new : Seen) where
  pub still_ended : (ends : Vec DriverEnd) → RunsDrivers told ran jobs p old (Ok ends) p' new → IsStill ran p p' (new.faults ≡ old.faults)
  still_ended ends r = record { notes = r.notes; noted = r.noted; still = r.calm }

  still_with : (e e' : PoolFault) → e ≡ e' → RunsDrivers told ran jobs p old (Err e) p' new
      → IsStill ran p p' (StaysCalm {T = Vec DriverEnd} (Err e') old new)
  still_with e e' is r =
      let same : RunsDrivers told ran jobs p old (Err e') p' new = subst (λ (x : PoolFault). RunsDrivers told ran jobs p old (Err x) p' new) is r in
      record { notes = same.notes; noted = same.noted; still = same.calm }

  pub still_unrun : (e : PoolFault) → e ≡ Child → RunsDrivers told ran jobs p old (Err e) p' new → IsStill ran p p' (new.faults ≡ old.faults)
  still_unrun e is r = still_with e Child is r

  pub still_memory : (e : PoolFault) → e ≡ Memory → RunsDrivers told ran jobs p old (Err e) p' new → IsStill ran p p' (new.faults ≡ old.faults)
  still_memory e is r = still_with e Memory is r

  pub still_fault : (e : PoolFault) → RunsDrivers told ran jobs p old (Err e) p' new → IsStill ran p p' (Unit {0})
  still_fault e r = record { notes = r.notes; noted = r.noted; still = λ calm. tt }

-- ---- behind a call that reads

module _ (told : Type 0) (old mid new : Seen) (k k' : Spawns) where
  lasts_later : HasReadCause told ByNone old mid → Lasts mid new → Lasts old new
  lasts_later first then =
      let same = first.0 in
      let grows = then.0 in
      let was = first.2.0 in
      let is = then.1 in
      let lent = first.2.2 in
      let lends = then.3 in
      (omega (arith, same, grows), omega (arith, was, is), then.2 ∙ first.2.1, omega (arith, lent, lends))

  rose_later : HasReadCause told ByNone old mid → Rose mid.faults new.faults ⊎ Rose mid.blocked new.blocked
      → Rose old.faults new.faults ⊎ Rose old.blocked new.blocked
  rose_later first (inl rose) = inl (subst (λ (n : ℕ). Rose n new.faults) first.0 rose)
  rose_later first (inr rose) = inr (subst (λ (n : ℕ). Rose n new.blocked) first.1.0 rose)

  pub cause_later : {X : Type 0} (result : Result X (Halt Lack)) → HasReadCause told ByNone old mid → HasMergeCause result mid new k k'
      → HasMergeCause result old new k k'
  cause_later (Ok x) first then = (lasts_later first then.0, then.1)
  cause_later (Err (halt.Stops why)) first then = (lasts_later first then.0, then.1, then.2 ∙ first.0)
  cause_later (Err halt.Fault) first then = (lasts_later first then.0, then.1, rose_later first then.2)
  cause_later (Err halt.Memory) first then = (lasts_later first then.0, then.1)

-- a call that reads, in its own right
module _ (told : Type 0) (old new : Seen) (k : Spawns) where
  lasts_of : old.faults ≤ new.faults → Stays told old new → Lasts old new
  lasts_of grows stays = (grows, stays.0, stays.1, stays.2)

  serves : Serves k k
  serves = (omega arith, refl)

  pub read_cause : (X : Type 0) (halted : Halt Lack) → HasReadCause told (halt_cause halted) old new
      → HasMergeCause {X = X} (Err halted) old new k k
  read_cause X (halt.Stops why) reads = let same = reads.0 in (lasts_of (omega (arith, same)) reads.2, serves, reads.0)
  read_cause X halt.Fault reads = (lasts_of reads.0 reads.3, serves, inl reads.1)
  read_cause X halt.Memory reads = let same = reads.0 in (lasts_of (omega (arith, same)) reads.2, serves)

module _ {A : Type 0} (ran : A → Noted → A → Type 0) (p : A) where
  -- no driver was run
  pub read_still : (X : Type 0) (told : Type 0) (halted : Halt Lack) (old new : Seen) → HasReadCause told (halt_cause halted) old new
      → IsStill ran p p (StaysStill {X = X} {E = Lack} (Err halted) old new)
  read_still X told halted old new reads = record { notes = []; noted = refl; still = λ calm. at halted reads }
    where
      at : (halted : Halt Lack) → HasReadCause told (halt_cause halted) old new → StaysStill {X = X} {E = Lack} (Err halted) old new
      at (halt.Stops why) reads = reads.0
      at halt.Fault reads = tt
      at halt.Memory reads = reads.0

  pub still_later : {X : Type 0} (p' : A) (result : Result X (Halt Lack)) (old mid new : Seen) → mid.faults ≡ old.faults
      → IsStill ran p p' (StaysStill result mid new) → IsStill ran p p' (StaysStill result old new)
  still_later {X} p' result old mid new same s = record { notes = s.notes; noted = s.noted; still = λ calm. at result (s.still calm) }
    where
      at : (result : Result X (Halt Lack)) → StaysStill result mid new → StaysStill result old new
      at (Ok x) h = h ∙ same
      at (Err (halt.Stops why)) h = h ∙ same
      at (Err halt.Fault) h = tt
      at (Err halt.Memory) h = h ∙ same
