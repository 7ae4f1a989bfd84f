-- Why a call that runs drivers gave no answer, and what no end of it moves.
use Rattle.std.specs.Prelude.{◌≡◌, ◌⊎◌, Bool, false, List, Result, Ok, Err}
use Rattle.seq_outside.specs.Causes.{Rose}
use Rattle.seq_outside.specs.Child.{Noted, Serves, Spawns}
use Rattle.seq_outside.specs.Seen.{Lasts, Seen}
use Rattle.seq_outside.specs.declared.halt.Halt.{Halt}
use Rattle.seq_outside.specs.declared.halt.Halt.TheVariants.{Stops, Fault, Memory}
use Rattle.driver_pool.specs.Pools.{AreNoted, IsCalm}
use Rattle.content_merge.specs.declared.merged.Merged.{Merged}
use Rattle.content_merge.specs.declared.merged.Merged.TheVariants.{Clean, Conflict, Broken}

-- A fault comes only where the store's count of faults rose, or a put of a driver's file was blocked; in a repository none is. No count
-- falls.
abbrev pub HasMergeCause : {X E : Type 0} → Result X (Halt E) → Seen → Seen → Spawns → Spawns → Type 0
HasMergeCause (Ok x) old new spawns spawns' = Lasts old new × Serves spawns spawns'
HasMergeCause (Err (Stops why)) old new spawns spawns' = Lasts old new × Serves spawns spawns' × (new.faults ≡ old.faults)
HasMergeCause (Err Fault) old new spawns spawns' =
    Lasts old new × Serves spawns spawns' × (Rose old.faults new.faults ⊎ Rose old.blocked new.blocked)
HasMergeCause (Err Memory) old new spawns spawns' = Lasts old new × Serves spawns spawns'

-- but for a fault, the count of faults stays
abbrev pub StaysStill : {X E : Type 0} → Result X (Halt E) → Seen → Seen → Type 0
StaysStill (Ok x) old new = new.faults ≡ old.faults
StaysStill (Err (Stops why)) old new = new.faults ≡ old.faults
StaysStill (Err Fault) old new = Unit {0}
StaysStill (Err Memory) old new = new.faults ≡ old.faults

-- These drivers were noted, and where none of their calls raised the store's count of faults, that only rose with a fault.
pub record IsStill {P : Type 0} (ran : P → Noted → P → Type 0) (p q : P) (stays : Type 0) : Type 0 where
  pub notes : List Noted
  pub noted : AreNoted ran p notes q
  pub still : IsCalm notes → stays

-- a driver could not be run
abbrev pub is_unrun : Merged → Bool
is_unrun (Clean map texts) = false
is_unrun (Conflict index files texts) = false
is_unrun (Broken path exit failed) = failed
