use Rattle.std.proofs.Common.{◌≡◌, ◌++◌, length, reverse}
use Rattle.content_merge.specs.Fates.{all_settled, ends_by_path}
use Rattle.content_merge.proofs.fates.settle.Given as goal

abbrev pub invariant-loop-rest : goal.invariant-loop-rest
invariant-loop-rest l =
    l.all.items ++ all_settled l.rest (ends_by_path l.driven (reverse l.left.items)) ≡ all_settled l.rows (ends_by_path l.drivers l.fn.ends.items)

abbrev pub decreases-loop-rest : goal.decreases-loop-rest
decreases-loop-rest l = length l.rest
