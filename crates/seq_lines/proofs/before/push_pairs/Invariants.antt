use Rattle.std.proofs.Common.{◌≡◌, ◌++◌, drop}
use Rattle.reading.specs.Stages.{paired}
use Rattle.seq_lines.proofs.before.push_pairs.Given as goal

abbrev pub invariant-loop-id : goal.invariant-loop-id
invariant-loop-id l = l.pairs.items ++ paired (drop l.id-index l.waiting) l.head ≡ l.fn.pairs.items ++ paired l.waiting l.head
