-- How a tree that was not read or put halts a step.
use Rattle.seq_outside.specs.declared.halt.Halt.{Halt}
use Rattle.seq_outside.specs.declared.halt.Halt.TheVariants.{Stops, Fault, Memory}
use Rattle.seq_outside.specs.declared.lack.Lack.{Lack}
use Rattle.seq_outside.specs.declared.lack.Lack.TheVariants as lack
use Rattle.seq_outside.specs.declared.limit.LimitWhat.TheVariants.{ObjectBytes, TreeDepth}
use Rattle.path_trees.specs.declared.fault.TreeFault.{TreeFault}
use Rattle.path_trees.specs.declared.fault.TreeFault.TheVariants as trees

-- of a tree that was not read
abbrev pub halt_of_read : TreeFault → Halt Lack
halt_of_read (trees.BadObject id) = Stops (lack.Object id)
halt_of_read (trees.TooLarge length) = Stops (lack.Limit ObjectBytes length)
halt_of_read trees.Depth = Stops (lack.Limit TreeDepth 257)
halt_of_read (trees.Blocked path) = Fault
halt_of_read trees.Fault = Fault
halt_of_read trees.Memory = Memory

-- of trees that were not put
abbrev pub halt_of_put : TreeFault → Halt Lack
halt_of_put (trees.BadObject id) = Stops (lack.Place id)
halt_of_put (trees.TooLarge length) = Stops (lack.Limit ObjectBytes length)
halt_of_put trees.Depth = Stops (lack.Limit TreeDepth 257)
halt_of_put (trees.Blocked path) = Stops (lack.Way path)
halt_of_put trees.Fault = Fault
halt_of_put trees.Memory = Memory
