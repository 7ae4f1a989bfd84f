-- What a run of merge drivers is seen to do, one after another (gitattributes(5), "Defining a custom merge driver").
use Rattle.std.specs.Prelude.{◌≡◌, ◌⊎◌, ℕ, ◌+◌, ◌==◌, nat_lt, true, false, if◌then◌else◌, List, [], ◌∷◌, length, Option, Some, None, Result, Ok, Err}
use Rattle.std.specs.FinMap as map
use Rattle.std.specs.Global.{Vec}
use Rattle.std.specs.List.{AllByRecursion}
use Rattle.child_jobs.specs.Jobs.{exec_of}
use Rattle.seq_base.specs.Words.{Text}
use Rattle.seq_base.specs.World.{World}
use Rattle.seq_outside.specs.Causes.{Rose}
use Rattle.seq_outside.specs.Child.{Noted, Serves, Spawns}
use Rattle.seq_outside.specs.Seen.{Cause, HasFault, Lasts, Seen}
use Rattle.seq_outside.specs.Seen.Cause.{ByBlock, ByFault, ByNone}
use Rattle.seq_outside.specs.declared.child.Exit.{Exit}
use Rattle.seq_outside.specs.declared.child.Exit.TheVariants.{Code, Killed}
use Rattle.seq_outside.specs.declared.store.StoreError.{StoreError}
use Rattle.seq_outside.specs.declared.store.StoreError.TheVariants as store
use Rattle.driver_pool.specs.Files.{file_of, with_files, without_files}
use Rattle.driver_pool.specs.declared.end.DriverEnd.{DriverEnd}
use Rattle.driver_pool.specs.declared.end.DriverEnd.TheVariants.{Broken, Clean, Conflict}
use Rattle.driver_pool.specs.declared.end.PoolFault.{PoolFault}
use Rattle.driver_pool.specs.declared.end.PoolFault.TheVariants.{Blocked, Child, Fault, Memory}
use Rattle.driver_pool.specs.declared.files.Version.TheVariants.{Ours}
use Rattle.driver_pool.specs.declared.job.DriverJob.{DriverJob}

-- how a driver ended, by its status and by what its file then holds
abbrev pub end_with : ℕ → Option Text → DriverEnd
end_with code None = Broken (Code code)
end_with code (Some text) = if code == 0 then Clean text else Conflict text

abbrev pub end_of : Exit → Option Text → DriverEnd
end_of (Code code) text = if nat_lt code 128 then end_with code text else Broken (Code code)
end_of Killed text = Broken Killed

-- ---- faults

abbrev pub fault_of : StoreError → PoolFault
fault_of store.Failed = Fault
fault_of store.Blocked = Blocked
fault_of store.Memory = Memory

abbrev pub pool_cause : PoolFault → Cause
pool_cause Fault = ByFault
pool_cause Blocked = ByBlock
pool_cause Child = ByNone
pool_cause Memory = ByNone

abbrev pub or_fault : Result (Unit {0}) PoolFault → Result (Unit {0}) PoolFault → Result (Unit {0}) PoolFault
or_fault (Err Fault) first = Err Fault
or_fault (Err Blocked) first = first
or_fault (Err Child) first = first
or_fault (Err Memory) first = first
or_fault (Ok x) first = first

-- what two calls come to: a fault of the store before all, else what the first came to
abbrev pub ended_as : Result (Unit {0}) PoolFault → Result (Unit {0}) PoolFault → Result (Unit {0}) PoolFault
ended_as (Err Fault) second = Err Fault
ended_as (Err Blocked) second = or_fault second (Err Blocked)
ended_as (Err Child) second = or_fault second (Err Child)
ended_as (Err Memory) second = or_fault second (Err Memory)
ended_as (Ok x) second = second

abbrev pub unless_fails : Result (Unit {0}) PoolFault → Result DriverEnd PoolFault → Result DriverEnd PoolFault
unless_fails (Ok x) end = end
unless_fails (Err fault) end = Err fault

-- what a driver came to, once its files were to be removed: a fault of the store before all
abbrev pub end_behind : Result DriverEnd PoolFault → Result (Unit {0}) PoolFault → Result DriverEnd PoolFault
end_behind (Err Fault) removed = Err Fault
end_behind (Err Blocked) removed = unless_fails removed (Err Blocked)
end_behind (Err Child) removed = unless_fails removed (Err Child)
end_behind (Err Memory) removed = unless_fails removed (Err Memory)
end_behind (Ok end) removed = unless_fails removed (Ok end)

-- A fault of the store, a blocked put and a child that could not be run come only where that count rose, and no count falls.
abbrev pub HasPoolCause : {T : Type 0} → Type 0 → Result T PoolFault → Seen → Seen → Spawns → Spawns → Type 0
HasPoolCause told (Ok x) old new spawns spawns' = Lasts old new × Serves spawns spawns'
HasPoolCause told (Err Fault) old new spawns spawns' = Lasts old new × Serves spawns spawns' × HasFault told old new
HasPoolCause told (Err Blocked) old new spawns spawns' = Lasts old new × Serves spawns spawns' × Rose old.blocked new.blocked
HasPoolCause told (Err Child) old new spawns spawns' = Lasts old new × Serves spawns spawns' × Rose spawns.faults spawns'.faults
HasPoolCause told (Err Memory) old new spawns spawns' = Lasts old new × Serves spawns spawns'

-- Where no call of a child raised the store's count of faults, only a fault of the store does.
abbrev pub StaysCalm : {T : Type 0} → Result T PoolFault → Seen → Seen → Type 0
StaysCalm (Ok x) old new = new.faults ≡ old.faults
StaysCalm (Err Fault) old new = Unit {0}
StaysCalm (Err Blocked) old new = new.faults ≡ old.faults
StaysCalm (Err Child) old new = new.faults ≡ old.faults
StaysCalm (Err Memory) old new = new.faults ≡ old.faults

-- ---- one driver

-- The job of that number was handed in, over what was found and its files.
pub record HandsIn {P : Type 0} (told : Type 0) (ran : P → Noted → P → Type 0) (number : ℕ) (job : DriverJob) (p : P) (found : World) (n : Noted) (q : P) : Type 0 where
  pub ran_is : ran p n q
  pub job_is : n.job ≡ exec_of job.command
  pub over_is : told → n.over ≡ with_files number job found

-- No call was made, or the job was handed in.
abbrev pub HandsInOrNot : {P : Type 0} → Type 0 → (P → Noted → P → Type 0) → ℕ → DriverJob → P → Seen → Result DriverEnd PoolFault → P → Seen → Type 0
HandsInOrNot told ran number job p old result q new =
    ((q ≡ p) × StaysCalm result old new)
    ⊎ ((n : Noted) × HandsIn told ran number job p old.content n q × (n.rose ≡ false → StaysCalm result old new))

-- What is seen of one driver. `after` is what becomes of the world that its child leaves.
abbrev pub DrivesBy : {P : Type 0} → (World → World) → Type 0 → (P → Noted → P → Type 0) → ℕ → DriverJob → P → Seen → Result DriverEnd PoolFault → P
    → Seen → Type 0
DrivesBy after told ran number job p old (Ok end) q new =
    (n : Noted) × HandsIn told ran number job p old.content n q
    × (n.failed ≡ false) × (told → end ≡ end_of n.exit (map.get n.left (file_of number Ours))) × (told → new.content ≡ after n.left)
    × (n.rose ≡ false → new.faults ≡ old.faults)
DrivesBy after told ran number job p old (Err Child) q new =
    (n : Noted) × HandsIn told ran number job p old.content n q × (n.failed ≡ true) × (told → new.content ≡ after n.left)
    × (n.rose ≡ false → new.faults ≡ old.faults)
DrivesBy after told ran number job p old (Err Fault) q new = HandsInOrNot told ran number job p old (Err Fault) q new
DrivesBy after told ran number job p old (Err Blocked) q new = HandsInOrNot told ran number job p old (Err Blocked) q new
DrivesBy after told ran number job p old (Err Memory) q new = HandsInOrNot told ran number job p old (Err Memory) q new

-- one driver, whose files are removed behind it
pub record IsDriven {P : Type 0} (told : Type 0) (ran : P → Noted → P → Type 0) (number : ℕ) (job : DriverJob) (p : P) (old : Seen) (result : Result DriverEnd PoolFault) (q : P) (new : Seen) : Type 0 where
  pub by : DrivesBy (without_files number) told ran number job p old result q new

-- ---- all drivers

-- From the one spawner to the other these were noted, one after another.
module _ {P : Type 0} (ran : P → Noted → P → Type 0) where
  abbrev pub AreNoted : P → List Noted → P → Type 0
  AreNoted p [] q = q ≡ p
  AreNoted p (n ∷ notes) q = (next : P) × ran p n next × AreNoted next notes q

-- The first of the jobs were handed in, numbered from that number on, each over what the one before it left and its own files.
abbrev pub AreHandedIn : Type 0 → ℕ → List DriverJob → World → List Noted → Type 0
AreHandedIn told number jobs w [] = Unit {0}
AreHandedIn told number [] w (n ∷ notes) = ⊥
AreHandedIn told number (job ∷ jobs) w (n ∷ notes) =
    (n.job ≡ exec_of job.command) × (told → n.over ≡ with_files number job w)
    × AreHandedIn told (number + 1) jobs (without_files number n.left) notes

-- what stands behind them: what the last left, without its files
abbrev pub left_behind : ℕ → World → List Noted → World
left_behind number w [] = w
left_behind number w (n ∷ notes) = left_behind (number + 1) (without_files number n.left) notes

-- their ends, in the order of the jobs
abbrev pub ends_of : ℕ → List Noted → List DriverEnd
ends_of number [] = []
ends_of number (n ∷ notes) = end_of n.exit (map.get n.left (file_of number Ours)) ∷ ends_of (number + 1) notes

abbrev pub HasWell : List Noted → Type 0
HasWell notes = AllByRecursion (λ n. n.failed ≡ false) notes

-- none of these calls raised the store's count of faults
abbrev pub IsCalm : List Noted → Type 0
IsCalm notes = AllByRecursion (λ n. n.rose ≡ false) notes

-- the last of them could not be run
abbrev pub HasFailedLast : List Noted → Type 0
HasFailedLast [] = ⊥
HasFailedLast (n ∷ []) = n.failed ≡ true
HasFailedLast (n ∷ m ∷ notes) = (n.failed ≡ false) × HasFailedLast (m ∷ notes)

-- Behind Ok each job has ended, and behind Child the last could not be run; then none of their files is left.
abbrev pub ComesTo : Type 0 → List DriverJob → World → List Noted → Result (Vec DriverEnd) PoolFault → World → Type 0
ComesTo told jobs w notes (Ok ends) left =
    (length notes ≡ length jobs) × HasWell notes × (told → ends.items ≡ ends_of 1 notes) × (told → left ≡ left_behind 1 w notes)
ComesTo told jobs w notes (Err Child) left = HasFailedLast notes × (told → left ≡ left_behind 1 w notes)
ComesTo told jobs w notes (Err Fault) left = Unit {0}
ComesTo told jobs w notes (Err Blocked) left = Unit {0}
ComesTo told jobs w notes (Err Memory) left = Unit {0}

-- What was seen of the spawner, and what it came to.
pub record RunsDrivers {P : Type 0} (told : Type 0) (ran : P → Noted → P → Type 0) (jobs : List DriverJob) (p : P) (old : Seen) (result : Result (Vec DriverEnd) PoolFault) (q : P) (new : Seen) : Type 0 where
  pub notes : List Noted
  pub noted : AreNoted ran p notes q
  pub handed : AreHandedIn told 1 jobs old.content notes
  pub comes : ComesTo told jobs old.content notes result new.content
  pub calm : IsCalm notes → StaysCalm result old new
