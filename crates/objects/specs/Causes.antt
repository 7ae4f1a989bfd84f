-- Why reading or putting an object ended.
use Rattle.seq_outside.specs.Seen.{Cause}
use Rattle.seq_outside.specs.Seen.Cause.{ByBlock, ByFault, ByNone}
use Rattle.seq_outside.specs.declared.store.StoreError.{StoreError}
use Rattle.seq_outside.specs.declared.store.StoreError.TheVariants as store
use Rattle.objects.specs.declared.fault.ObjectFault.{ObjectFault}
use Rattle.objects.specs.declared.fault.ObjectFault.TheVariants.{Missing, TooLarge, WrongHash, BadText, Collision, Blocked, Fault, Memory}

-- of a call that is no put
abbrev pub fault_of : StoreError → ObjectFault
fault_of store.Failed = Fault
fault_of store.Blocked = Fault
fault_of store.Memory = Memory

abbrev pub object_cause : ObjectFault → Cause
object_cause Missing = ByNone
object_cause (TooLarge length) = ByNone
object_cause (WrongHash id found) = ByNone
object_cause (BadText at) = ByNone
object_cause (Collision id kept) = ByNone
object_cause (Blocked path) = ByBlock
object_cause Fault = ByFault
object_cause Memory = ByNone

-- the store failed, or memory ran out
abbrev pub IsFaultOrMemory : ObjectFault → Type 0
IsFaultOrMemory Missing = ⊥
IsFaultOrMemory (TooLarge length) = ⊥
IsFaultOrMemory (WrongHash id found) = ⊥
IsFaultOrMemory (BadText at) = ⊥
IsFaultOrMemory (Collision id kept) = ⊥
IsFaultOrMemory (Blocked path) = ⊥
IsFaultOrMemory Fault = Unit {0}
IsFaultOrMemory Memory = Unit {0}

-- a fault with which an object is not put
abbrev pub IsPutFault : ObjectFault → Type 0
IsPutFault Missing = ⊥
IsPutFault (TooLarge length) = Unit {0}
IsPutFault (WrongHash id found) = Unit {0}
IsPutFault (BadText at) = ⊥
IsPutFault (Collision id kept) = Unit {0}
IsPutFault (Blocked path) = Unit {0}
IsPutFault Fault = Unit {0}
IsPutFault Memory = Unit {0}
