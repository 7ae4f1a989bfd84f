use Rattle.std.proofs.Common.{◌≡◌, ◌++◌, length}
use Rattle.seq_model.specs.Report.{unmerged_lines}
use Rattle.report_text.proofs.reports.push_unmerged.Given as goal

abbrev pub invariant-loop-rest : goal.invariant-loop-rest
invariant-loop-rest l = l.text.items ++ unmerged_lines l.rest ≡ l.fn.text.items ++ unmerged_lines l.paths

abbrev pub decreases-loop-rest : goal.decreases-loop-rest
decreases-loop-rest l = length l.rest
