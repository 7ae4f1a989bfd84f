-- How an object that was not read or put halts a step.
use Rattle.std.specs.Prelude.{◌≡◌}
use Rattle.object_text.specs.declared.fault.TextFault.{TextFault}
use Rattle.object_text.specs.declared.fault.TextFault.TheVariants as text
use Rattle.seq_base.specs.Words.{Id}
use Rattle.seq_outside.specs.declared.halt.Halt.{Halt}
use Rattle.seq_outside.specs.declared.halt.Halt.TheVariants.{Stops, Fault, Memory}
use Rattle.seq_outside.specs.declared.lack.Lack.{Lack}
use Rattle.seq_outside.specs.declared.lack.Lack.TheVariants as lack
use Rattle.seq_outside.specs.declared.limit.LimitWhat.TheVariants.{ObjectBytes, Parents}
use Rattle.objects.specs.declared.fault.ObjectFault.{ObjectFault}
use Rattle.objects.specs.declared.fault.ObjectFault.TheVariants as objects

-- of an object that was not read
abbrev pub halt_of_object : Id → ObjectFault → Halt Lack
halt_of_object id objects.Missing = Stops (lack.Object id)
halt_of_object id (objects.TooLarge length) = Stops (lack.Limit ObjectBytes length)
halt_of_object id (objects.WrongHash wanted found) = Stops (lack.Object id)
halt_of_object id (objects.BadText at) = Stops (lack.Object id)
halt_of_object id (objects.Collision wanted kept) = Stops (lack.Object id)
halt_of_object id (objects.Blocked path) = Fault
halt_of_object id objects.Fault = Fault
halt_of_object id objects.Memory = Memory

-- of a content that is no commit
abbrev pub halt_of_commit : Id → TextFault → Halt Lack
halt_of_commit id (text.Bad at) = Stops (lack.Object id)
halt_of_commit id (text.Parents count) = Stops (lack.Limit Parents count)
halt_of_commit id text.Memory = Memory

-- of an object that was not put
abbrev pub HasPutHalt : ObjectFault → Halt Lack → Type 0
HasPutHalt objects.Missing halt = ⊥
HasPutHalt (objects.TooLarge length) halt = halt ≡ Stops (lack.Limit ObjectBytes length)
HasPutHalt (objects.WrongHash id found) halt = halt ≡ Stops (lack.Place id)
HasPutHalt (objects.BadText at) halt = ⊥
HasPutHalt (objects.Collision id kept) halt = halt ≡ Stops (lack.Place id)
HasPutHalt (objects.Blocked path) halt = halt ≡ Stops (lack.Way path)
HasPutHalt objects.Fault halt = halt ≡ Fault
HasPutHalt objects.Memory halt = halt ≡ Memory
