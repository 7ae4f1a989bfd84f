-- Which fault is answered, and why the call ended.
use Rattle.seq_base.specs.Words.{Id}
use Rattle.seq_base.specs.declared.path.PathFault.{PathFault}
use Rattle.seq_base.specs.declared.path.PathFault.TheVariants as paths
use Rattle.seq_outside.specs.Seen.{Cause}
use Rattle.seq_outside.specs.Seen.Cause.{ByBlock, ByFault, ByNone}
use Rattle.objects.specs.declared.fault.ObjectFault.{ObjectFault}
use Rattle.objects.specs.declared.fault.ObjectFault.TheVariants as objects
use Rattle.path_trees.specs.declared.fault.TreeFault.{TreeFault}
use Rattle.path_trees.specs.declared.fault.TreeFault.TheVariants.{BadObject, TooLarge, Depth, Blocked, Fault, Memory}

-- what is answered of an object that was not read
abbrev pub fault_at : Id → ObjectFault → TreeFault
fault_at id objects.Missing = BadObject id
fault_at id (objects.TooLarge length) = TooLarge length
fault_at id (objects.WrongHash wanted found) = BadObject id
fault_at id (objects.BadText at) = BadObject id
fault_at id (objects.Collision wanted kept) = BadObject id
fault_at id (objects.Blocked path) = Fault
fault_at id objects.Fault = Fault
fault_at id objects.Memory = Memory

-- what is answered of a tree that was not put
abbrev pub put_fault_at : ObjectFault → TreeFault
put_fault_at objects.Missing = Fault
put_fault_at (objects.TooLarge length) = TooLarge length
put_fault_at (objects.WrongHash wanted found) = BadObject wanted
put_fault_at (objects.BadText at) = Fault
put_fault_at (objects.Collision wanted kept) = BadObject wanted
put_fault_at (objects.Blocked path) = Blocked path
put_fault_at objects.Fault = Fault
put_fault_at objects.Memory = Memory

-- what is answered of a tree that has an entry whose path is none
abbrev pub path_fault_at : Id → PathFault → TreeFault
path_fault_at id paths.Empty = BadObject id
path_fault_at id (paths.TooLong length) = BadObject id
path_fault_at id (paths.NotUtf8 at) = BadObject id
path_fault_at id (paths.BadPart at) = BadObject id
path_fault_at id paths.Memory = Memory

abbrev pub tree_cause : TreeFault → Cause
tree_cause (BadObject id) = ByNone
tree_cause (TooLarge length) = ByNone
tree_cause Depth = ByNone
tree_cause (Blocked path) = ByBlock
tree_cause Fault = ByFault
tree_cause Memory = ByNone
