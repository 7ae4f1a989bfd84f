-- What proofs see of a store, and what a call does to it.
use Rattle.std.specs.Prelude.{◌≡◌, ◌⊎◌, ℕ, ◌+◌, ◌≤◌, List, Result, Ok, Err}
use Rattle.seq_base.specs.World.{World}
use Rattle.seq_outside.specs.Causes.{Rose}
use Rattle.seq_outside.specs.declared.store.StoreError.{StoreError}
use Rattle.seq_outside.specs.declared.store.StoreError.TheVariants as store
use Rattle.seq_outside.specs.declared.write.Write.{Write}
use Rattle.seq_outside.specs.Writes.{IsOnTheWay, written}

-- What it holds, where it tells it; how often it failed, and how many of its puts were blocked. A store over a lent one
-- has the name of that reference, what the lent store holds and how many of its puts were blocked; any other has 0 and no file.
pub record Seen : Type 0 where
  pub content : World
  pub faults : ℕ
  pub blocked : ℕ
  pub lender : ℕ
  pub beneath : World
  pub beneath_blocked : ℕ

-- why a call ended: well, with a refusal or for want of memory; by a fault of the store; by a blocked put
pub data Cause : Type 0 where
  ByNone : Cause
  ByFault : Cause
  ByBlock : Cause

abbrev pub store_cause : StoreError → Cause
store_cause store.Failed = ByFault
store_cause store.Blocked = ByBlock
store_cause store.Memory = ByNone

abbrev pub cause_of : {T E : Type 0} → (E → Cause) → Result T E → Cause
cause_of cause (Ok x) = ByNone
cause_of cause (Err e) = cause e

-- what no call of a store changes, but for counts that may rise
abbrev pub Stays : Type 0 → Seen → Seen → Type 0
Stays told old new =
    (old.blocked ≤ new.blocked)
    × (new.lender ≡ old.lender)
    × (old.beneath_blocked ≤ new.beneath_blocked)
    × (told → new.beneath ≡ old.beneath)

-- whatever is done with a store, and whatever ends it
abbrev pub Goes : Type 0 → Seen → Seen → Type 0
Goes told old new = (old.faults ≤ new.faults) × Stays told old new

-- the same, where a child may also have been run over the store that was lent
abbrev pub Lasts : Seen → Seen → Type 0
Lasts old new =
    (old.faults ≤ new.faults) × (old.blocked ≤ new.blocked) × (new.lender ≡ old.lender) × (old.beneath_blocked ≤ new.beneath_blocked)

-- Why a store failed: a count of its own rose, that of faults where it tells what it holds.
abbrev pub HasFault : Type 0 → Seen → Seen → Type 0
HasFault told old new = (Rose old.faults new.faults ⊎ Rose old.blocked new.blocked) × (told → Rose old.faults new.faults)

-- A fault comes only where the count of faults rose, and a blocked put only where that of blocked puts did. No other end
-- moves the count of faults, and neither count falls.
abbrev pub HasCause : Type 0 → Cause → Seen → Seen → Type 0
HasCause told ByNone old new = (new.faults ≡ old.faults) × Stays told old new
HasCause told ByFault old new = (old.faults ≤ new.faults) × Rose old.faults new.faults × Stays told old new
HasCause told ByBlock old new = (new.faults ≡ old.faults) × Rose old.blocked new.blocked × Stays told old new

-- no put was blocked
abbrev pub NoneBlocked : Seen → Seen → Type 0
NoneBlocked old new = (new.blocked ≡ old.blocked) × (new.beneath_blocked ≡ old.beneath_blocked)

-- of a call that puts nothing
abbrev pub HasReadCause : Type 0 → Cause → Seen → Seen → Type 0
HasReadCause told ByNone old new = (new.faults ≡ old.faults) × NoneBlocked old new × Stays told old new
HasReadCause told ByFault old new = (old.faults ≤ new.faults) × Rose old.faults new.faults × NoneBlocked old new × Stays told old new
HasReadCause told ByBlock old new = ⊥

-- the call ended for the cause that its answer names
abbrev pub Writes : {T E : Type 0} → Type 0 → (E → Cause) → Result T E → Seen → Seen → Type 0
Writes told cause result old new = HasCause told (cause_of cause result) old new

-- and what the store holds stays
abbrev pub Reads : {T E : Type 0} → Type 0 → (E → Cause) → Result T E → Seen → Seen → Type 0
Reads told cause result old new = (told → new.content ≡ old.content) × HasReadCause told (cause_of cause result) old new

-- a store in which changes are made
abbrev pub made : Seen → List Write → Seen
made under changes = record under { content = written under.content changes }

-- what stands of such a store, whatever ends the making of its changes
abbrev pub MakesFront : Seen → List Write → Seen → Type 0
MakesFront old changes new = IsOnTheWay old.content (written old.content changes) new.content

-- a store over a lent one, with changes that are to be made, blocked puts of its own, and the name of its reference
abbrev pub drafting : Seen → List Write → ℕ → ℕ → Seen
drafting under changes refused name = record {
  content = written under.content changes;
  faults = under.faults;
  blocked = under.blocked + refused;
  lender = name;
  beneath = under.content;
  beneath_blocked = under.blocked;
}
