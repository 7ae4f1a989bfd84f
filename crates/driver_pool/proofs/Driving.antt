-- What is seen of one driver, whatever it came to, and once its files are removed.
use Rattle.std.proofs.Common.{◌≡◌, ◌⊎◌, ℕ, ◌-◌, ◌≤◌, ◌^◌, min, nat_lt, false, Ok, Err, refl, ap, subst, ◌∙◌, arith, inl, inr, IfOk}
use Rattle.std.specs.Prelude.{IsErrOf, OnOk, Result}
use Rattle.std.proofs.lemmas.Bool.Decides.{nat_tests}
use Rattle.std.specs.FinMap as map
use Rattle.child_jobs.specs.Jobs.{exec_of}
use Rattle.seq_base.specs.World.{World}
use Rattle.seq_outside.specs.Child.{Noted, Runs, Serves, Spawns, noted}
use Rattle.seq_outside.specs.Causes.{Rose}
use Rattle.seq_outside.specs.Seen.{Cause, HasCause, HasFault, Lasts, Reads, Seen, Stays, Writes, cause_of}
use Rattle.seq_outside.specs.Seen.Cause.{ByBlock, ByFault, ByNone}
use Rattle.seq_outside.specs.declared.child.ChildError.{ChildError}
use Rattle.seq_outside.specs.declared.child.ChildError.TheVariants as error
use Rattle.seq_outside.specs.declared.child.Exit.{Exit}
use Rattle.seq_outside.specs.declared.child.Job.{Job}
use Rattle.driver_pool.specs.Files.{file_of, with_files, without_files}
use Rattle.driver_pool.specs.Pools.{DrivesBy, HandsIn, HandsInOrNot, HasPoolCause, StaysCalm, end_behind, end_of, pool_cause}
use Rattle.driver_pool.specs.declared.end.DriverEnd.{DriverEnd}
use Rattle.driver_pool.specs.declared.end.PoolFault.{PoolFault}
use Rattle.driver_pool.specs.declared.end.PoolFault.TheVariants.{Blocked, Child, Fault, Memory}
use Rattle.driver_pool.specs.declared.files.Version.TheVariants.{Ours}
use Rattle.driver_pool.specs.declared.job.DriverJob.{DriverJob}

-- a count that is not noted as risen stays
not_risen : (before now : ℕ) → before ≤ now → nat_lt (min before (2 ^ 64 - 2)) now ≡ false → now ≡ before
not_risen before now grows same =
    let least : now ≤ min before (2 ^ 64 - 2) = grind (arith, nat_tests) in
    omega (arith, grows, least)

-- a call that reads leaves the count, but where it failed
reads_calm : (told : Type 0) (result : Result DriverEnd PoolFault) (old new : Seen) → Reads told pool_cause result old new
    → (IsErrOf result Child → ⊥) → StaysCalm result old new
reads_calm told (Ok end) old new reads not_child = reads.1.0
reads_calm told (Err Fault) old new reads not_child = tt
reads_calm told (Err Blocked) old new reads not_child = absurd reads.1
reads_calm told (Err Child) old new reads not_child = absurd (not_child refl)
reads_calm told (Err Memory) old new reads not_child = reads.1.0

module _ {P : Type 0} (told : Type 0) (ran : P → Noted → P → Type 0) (number : ℕ) (job : DriverJob) (p : P) (old : Seen) where
  -- a fault of the store, whatever came before it
  faulty : (end : Result DriverEnd PoolFault) (q : P) (mid new : Seen) → DrivesBy (λ (w : World). w) told ran number job p old end q mid
      → HandsInOrNot told ran number job p old (Err Fault) q new
  faulty (Ok end) q mid new h = inr (h.0, h.1, λ c. tt)
  faulty (Err Child) q mid new h = inr (h.0, h.1, λ c. tt)
  faulty (Err Fault) q mid new (inl h) = inl (h.0, tt)
  faulty (Err Fault) q mid new (inr h) = inr (h.0, h.1, λ c. tt)
  faulty (Err Blocked) q mid new (inl h) = inl (h.0, tt)
  faulty (Err Blocked) q mid new (inr h) = inr (h.0, h.1, λ c. tt)
  faulty (Err Memory) q mid new (inl h) = inl (h.0, tt)
  faulty (Err Memory) q mid new (inr h) = inr (h.0, h.1, λ c. tt)

  -- want of memory, where the count stays
  wanting : (q : P) (mid new : Seen) → new.faults ≡ mid.faults → HandsInOrNot told ran number job p old (Err Memory) q mid
      → HandsInOrNot told ran number job p old (Err Memory) q new
  wanting q mid new same (inl h) = inl (h.0, same ∙ h.1)
  wanting q mid new same (inr h) = inr (h.0, h.1, λ c. same ∙ h.2 c)

  blocked : (q : P) (mid new : Seen) → new.faults ≡ mid.faults → HandsInOrNot told ran number job p old (Err Blocked) q mid
      → HandsInOrNot told ran number job p old (Err Blocked) q new
  blocked q mid new same (inl h) = inl (h.0, same ∙ h.1)
  blocked q mid new same (inr h) = inr (h.0, h.1, λ c. same ∙ h.2 c)

  -- where the files of a driver that met no fault could not be removed
  not_removed : (fault : PoolFault) (q : P) (mid new : Seen) → HandsInOrNot told ran number job p old (Err Fault) q new
      → HandsInOrNot told ran number job p old (Err Memory) q mid
      → (fault ≡ Child → ⊥) → (fault ≡ Blocked → ⊥) → HasCause told (pool_cause fault) mid new → DrivesBy (without_files number) told ran number job p old (Err fault) q new
  not_removed Fault q mid new by_fault calm no_child no_block why = by_fault
  not_removed Blocked q mid new by_fault calm no_child no_block why = absurd (no_block refl)
  not_removed Child q mid new by_fault calm no_child no_block why = absurd (no_child refl)
  not_removed Memory q mid new by_fault calm no_child no_block why = wanting q mid new why.0 calm

  -- what a driver came to, once its files were to be removed
  pub behind_removal : (end : Result DriverEnd PoolFault) (removed : Result (Unit {0}) PoolFault) (q : P) (mid new : Seen)
      → DrivesBy (λ (w : World). w) told ran number job p old end q mid
      → (told → OnOk removed (new.content ≡ without_files number mid.content)) → (IsErrOf removed Child → ⊥) → (IsErrOf removed Blocked → ⊥) → Writes told pool_cause removed mid new
      → DrivesBy (without_files number) told ran number job p old (end_behind end removed) q new
  behind_removal (Err Fault) removed q mid new h gone no_child no_block why = faulty (Err Fault) q mid new h
  behind_removal (Ok end) (Ok x) q mid new h gone no_child no_block why =
      (h.0, h.1, h.2, h.3, (λ t. gone t ∙ ap (without_files number) (h.4 t)), λ c. why.0 ∙ h.5 c)
  behind_removal (Err Child) (Ok x) q mid new h gone no_child no_block why =
      (h.0, h.1, h.2, (λ t. gone t ∙ ap (without_files number) (h.3 t)), λ c. why.0 ∙ h.4 c)
  behind_removal (Err Blocked) (Ok x) q mid new h gone no_child no_block why = blocked q mid new why.0 h
  behind_removal (Err Memory) (Ok x) q mid new h gone no_child no_block why = wanting q mid new why.0 h
  behind_removal (Ok end) (Err fault) q mid new h gone no_child no_block why =
      not_removed fault q mid new (faulty (Ok end) q mid new h) (inr (h.0, h.1, h.5)) (λ e. no_child (ap Err e)) (λ e. no_block (ap Err e)) why
  behind_removal (Err Child) (Err fault) q mid new h gone no_child no_block why =
      not_removed fault q mid new (faulty (Err Child) q mid new h) (inr (h.0, h.1, h.4)) (λ e. no_child (ap Err e)) (λ e. no_block (ap Err e)) why
  behind_removal (Err Blocked) (Err fault) q mid new h gone no_child no_block why =
      not_removed fault q mid new (faulty (Err Blocked) q mid new h) h (λ e. no_child (ap Err e)) (λ e. no_block (ap Err e)) why
  behind_removal (Err Memory) (Err fault) q mid new h gone no_child no_block why =
      not_removed fault q mid new (faulty (Err Memory) q mid new h) h (λ e. no_child (ap Err e)) (λ e. no_block (ap Err e)) why

  -- what a child that was handed in over the job's files comes to
  module _ (child : Job) (mid : Seen) (is : child ≡ exec_of job.command) (over : told → mid.content ≡ with_files number job old.content) (same : mid.faults ≡ old.faults) where
    hands : (result : Result Exit ChildError) (q : P) (new : Seen) → ran p (noted child mid result new) q
        → HandsIn told ran number job p old.content (noted child mid result new) q
    hands result q new h = record { ran_is = h; job_is = is; over_is = over }

    -- where its call is noted as calm
    calm : (result : Result Exit ChildError) (new : Seen) → Lasts mid new → (noted child mid result new).rose ≡ false → new.faults ≡ old.faults
    calm result new goes c = not_risen mid.faults new.faults goes.0 c ∙ same

    pub child_fails : (e : ChildError) → e ≡ error.Failed → (q : P) (new : Seen) → Runs told ran child p mid (Err e) q new → Lasts mid new
        → DrivesBy (λ (w : World). w) told ran number job p old (Err Child) q new
    child_fails e is_failed q new h goes =
        let run : Runs told ran child p mid (Err error.Failed) q new = subst (λ (x : ChildError). Runs told ran child p mid (Err x) q new) is_failed h in
        (noted child mid (Err error.Failed) new, hands (Err error.Failed) q new run, refl, (λ t. refl), calm (Err error.Failed) new goes)

    wants_memory : (q : P) (new : Seen) → Runs told ran child p mid (Err error.Memory) q new → Lasts mid new
        → DrivesBy (λ (w : World). w) told ran number job p old (Err Memory) q new
    wants_memory q new (inl none) goes = inl (none.1.0, none.0 ∙ same)
    wants_memory q new (inr some) goes =
        inr (noted child mid (Err error.Memory) new, hands (Err error.Memory) q new some, calm (Err error.Memory) new goes)

    pub child_wants_memory : (e : ChildError) → e ≡ error.Memory → (q : P) (new : Seen) → Runs told ran child p mid (Err e) q new → Lasts mid new
        → DrivesBy (λ (w : World). w) told ran number job p old (Err Memory) q new
    child_wants_memory e is_memory q new h goes =
        wants_memory q new (subst (λ (x : ChildError). Runs told ran child p mid (Err x) q new) is_memory h) goes

    pub child_meets_fault : (e : ChildError) → e ≡ error.Store → (q : P) (new : Seen) → Runs told ran child p mid (Err e) q new
        → DrivesBy (λ (w : World). w) told ran number job p old (Err Fault) q new
    child_meets_fault e is_store q new h =
        let none : Runs told ran child p mid (Err error.Store) q new = subst (λ (x : ChildError). Runs told ran child p mid (Err x) q new) is_store h in
        inl (none.0, tt)

    pub child_ends : (exit : Exit) (q : P) (between new : Seen) (result : Result DriverEnd PoolFault) → Runs told ran child p mid (Ok exit) q between
        → Lasts mid between
        → (told → IfOk result (λ end. end ≡ end_of exit (map.get between.content (file_of number Ours)))) → Reads told pool_cause result between new → (IsErrOf result Child → ⊥)
        → DrivesBy (λ (w : World). w) told ran number job p old result q new
    child_ends exit q between new result h goes end_is reads not_child =
        ends result end_is (λ t. reads.0 t) not_child (reads_calm told result between new reads not_child)
      where
        ends : (result : Result DriverEnd PoolFault) → (told → IfOk result (λ end. end ≡ end_of exit (map.get between.content (file_of number Ours))))
            → (told → new.content ≡ between.content) → (IsErrOf result Child → ⊥) → StaysCalm result between new → DrivesBy (λ (w : World). w) told ran number job p old result q new
        ends (Ok end) end_is kept not_child rest =
            (noted child mid (Ok exit) between, hands (Ok exit) q between h, refl, end_is, kept, λ c. rest ∙ calm (Ok exit) between goes c)
        ends (Err Child) end_is kept not_child rest = absurd (not_child refl)
        ends (Err Fault) end_is kept not_child rest = inr (noted child mid (Ok exit) between, hands (Ok exit) q between h, λ c. tt)
        ends (Err Blocked) end_is kept not_child rest =
            inr (noted child mid (Ok exit) between, hands (Ok exit) q between h, λ c. rest ∙ calm (Ok exit) between goes c)
        ends (Err Memory) end_is kept not_child rest =
            inr (noted child mid (Ok exit) between, hands (Ok exit) q between h, λ c. rest ∙ calm (Ok exit) between goes c)

-- ---- counts

module _ (told : Type 0) (old mid new : Seen) where
  lasts_later : Lasts old mid → mid.faults ≤ new.faults → Stays told mid new → Lasts old new
  lasts_later first grows then =
      let faults = first.0 in
      let blocked = first.1 in
      let lent = first.3 in
      let blocks = then.0 in
      let lends = then.2 in
      (omega (arith, faults, grows), omega (arith, blocked, blocks), then.1 ∙ first.2, omega (arith, lent, lends))

  lasts_behind : (cause : Cause) → Lasts old mid → HasCause told cause mid new → Lasts old new
  lasts_behind ByNone first why = let same = why.0 in lasts_later first (omega (arith, same)) why.1
  lasts_behind ByFault first why = lasts_later first why.0 why.2
  lasts_behind ByBlock first why = let same = why.0 in lasts_later first (omega (arith, same)) why.2

  -- no count falls
  blocked_grows : (cause : Cause) → HasCause told cause mid new → mid.blocked ≤ new.blocked
  blocked_grows ByNone why = why.1.0
  blocked_grows ByFault why = why.2.0
  blocked_grows ByBlock why = why.2.0

  faults_grow : (cause : Cause) → HasCause told cause mid new → mid.faults ≤ new.faults
  faults_grow ByNone why = let same = why.0 in omega (arith, same)
  faults_grow ByFault why = why.0
  faults_grow ByBlock why = let same = why.0 in omega (arith, same)

  -- a fault stays one
  either_later : mid.faults ≤ new.faults → mid.blocked ≤ new.blocked → Rose old.faults mid.faults ⊎ Rose old.blocked mid.blocked
      → Rose old.faults new.faults ⊎ Rose old.blocked new.blocked
  either_later grows blocks (inl rose) = inl (omega (arith, grows, rose))
  either_later grows blocks (inr rose) = inr (omega (arith, blocks, rose))

  fault_later : mid.faults ≤ new.faults → mid.blocked ≤ new.blocked → HasFault told old mid → HasFault told old new
  fault_later grows blocks h = (either_later grows blocks h.0, λ t. let rose = h.1 t in omega (arith, grows, rose))

  -- a fault later is one from the start
  fault_behind : Lasts old mid → Rose mid.faults new.faults → HasFault told old new
  fault_behind first rose =
      let grows = first.0 in
      let whole : Rose old.faults new.faults = omega (arith, grows, rose) in
      (inl whole, λ t. whole)

  -- the answer of the removal, behind that of the driver
  module _ (spawns spawns' : Spawns) where
    not_removed_cause : (fault : PoolFault) → Lasts old mid → Serves spawns spawns' → (fault ≡ Child → ⊥) → (fault ≡ Blocked → ⊥)
        → HasCause told (pool_cause fault) mid new
        → HasPoolCause {T = DriverEnd} told (Err fault) old new spawns spawns'
    not_removed_cause Fault first serves no_child no_block why = (lasts_behind ByFault first why, serves, fault_behind first why.1)
    not_removed_cause Blocked first serves no_child no_block why = absurd (no_block refl)
    not_removed_cause Child first serves no_child no_block why = absurd (no_child refl)
    not_removed_cause Memory first serves no_child no_block why = (lasts_behind ByNone first why, serves)

    pub behind_cause : (end : Result DriverEnd PoolFault) (removed : Result (Unit {0}) PoolFault) → HasPoolCause told end old mid spawns spawns'
        → (IsErrOf removed Child → ⊥) → (IsErrOf removed Blocked → ⊥) → Writes told pool_cause removed mid new
        → HasPoolCause told (end_behind end removed) old new spawns spawns'
    behind_cause (Err Fault) removed h no_child no_block why =
        let cause = cause_of pool_cause removed in
        (lasts_behind cause h.0 why, h.1, fault_later (faults_grow cause why) (blocked_grows cause why) h.2)
    behind_cause (Ok end) (Ok x) h no_child no_block why = (lasts_behind ByNone h.0 why, h.1)
    behind_cause (Err Memory) (Ok x) h no_child no_block why = (lasts_behind ByNone h.0 why, h.1)
    behind_cause (Err Child) (Ok x) h no_child no_block why = (lasts_behind ByNone h.0 why, h.1, h.2)
    behind_cause (Err Blocked) (Ok x) h no_child no_block why =
        let rose : Rose old.blocked mid.blocked = h.2 in
        let then = blocked_grows ByNone why in
        (lasts_behind ByNone h.0 why, h.1, omega (arith, rose, then))
    behind_cause (Ok end) (Err fault) h no_child no_block why =
        not_removed_cause fault h.0 h.1 (λ e. no_child (ap Err e)) (λ e. no_block (ap Err e)) why
    behind_cause (Err Memory) (Err fault) h no_child no_block why =
        not_removed_cause fault h.0 h.1 (λ e. no_child (ap Err e)) (λ e. no_block (ap Err e)) why
    behind_cause (Err Child) (Err fault) h no_child no_block why =
        not_removed_cause fault h.0 h.1 (λ e. no_child (ap Err e)) (λ e. no_block (ap Err e)) why
    behind_cause (Err Blocked) (Err fault) h no_child no_block why =
        not_removed_cause fault h.0 h.1 (λ e. no_child (ap Err e)) (λ e. no_block (ap Err e)) why
