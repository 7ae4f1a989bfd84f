use Rattle.std.proofs.Common.{◌≡◌, length}
use Rattle.seq_base.specs.PathMaps.{entry_at}
use Rattle.content_merge.proofs.rule_files.entry_with.Given as goal

abbrev pub invariant-loop-rest : goal.invariant-loop-rest
invariant-loop-rest l = entry_at l.rest l.path ≡ entry_at l.map l.path

abbrev pub decreases-loop-rest : goal.decreases-loop-rest
decreases-loop-rest l = length l.rest
