use Rattle.std.proofs.Common.{take}
use Rattle.seq_base.proofs.RefFronts.{Stands}
use Rattle.seq_base.proofs.ref_name.check_ref_name.Given as goal

abbrev pub invariant-loop-i : goal.invariant-loop-i
invariant-loop-i l = Stands l.front (take l.i l.name)
