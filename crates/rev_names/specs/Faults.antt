-- Why a word names no commit, by what is at fault below.
use Rattle.std.specs.Prelude.{ℕ, codes}
use Rattle.ref_store.specs.declared.fault.RefFault.{RefFault}
use Rattle.ref_store.specs.declared.fault.RefFault.TheVariants as refs
use Rattle.seq_outside.specs.declared.halt.Halt.{Halt}
use Rattle.seq_outside.specs.declared.halt.Halt.TheVariants.{Stops, Fault, Memory}
use Rattle.seq_outside.specs.declared.lack.Lack.{Lack}
use Rattle.seq_outside.specs.declared.lack.Lack.TheVariants as lack
use Rattle.seq_outside.specs.declared.limit.LimitWhat.{LimitWhat}
use Rattle.seq_outside.specs.declared.limit.LimitWhat.TheVariants as limit
use Rattle.rev_names.specs.declared.fault.RevFault.{RevFault}
use Rattle.rev_names.specs.declared.fault.RevFault.TheVariants.{NoSuch, NoLogEntry, BadObject, TooLarge, Parents, BadRef}

-- a value or a log of a ref is not read; the last two are of refs that are written
abbrev pub bad_ref : RefFault → RevFault
bad_ref refs.BadHead = BadRef (codes "HEAD")
bad_ref (refs.BadRef name) = BadRef name
bad_ref (refs.BadPacked line) = BadRef (codes "packed-refs")
bad_ref (refs.BadLog line) = NoLogEntry
bad_ref (refs.Moved found) = NoSuch
bad_ref (refs.Blocked name) = BadRef name

abbrev pub bad_limit : LimitWhat → ℕ → RevFault
bad_limit limit.Parents number = Parents number
bad_limit limit.ObjectBytes number = TooLarge number
bad_limit limit.TreeDepth number = TooLarge number
bad_limit limit.IndexEntries number = TooLarge number
bad_limit limit.TodoLines number = TooLarge number
bad_limit limit.TodoBytes number = TooLarge number
bad_limit limit.Labels number = TooLarge number
bad_limit limit.Commits number = TooLarge number
bad_limit limit.Jobs number = TooLarge number

-- an object is not read; the last two are of files that are written
abbrev pub bad_object : Lack → RevFault
bad_object (lack.Object id) = BadObject id
bad_object (lack.Limit what number) = bad_limit what number
bad_object (lack.Way path) = BadRef path
bad_object (lack.Place id) = BadObject id

abbrev pub told_of : {E F : Type 0} → (E → F) → Halt E → Halt F
told_of told (Stops why) = Stops (told why)
told_of told Fault = Fault
told_of told Memory = Memory
