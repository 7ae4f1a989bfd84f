use Rattle.std.proofs.Common.{◌≡◌, ◌++◌, length}
use Rattle.seq_model.specs.Fields.{escaped}
use Rattle.report_text.proofs.fields.push_escaped.Given as goal

abbrev pub invariant-loop-rest : goal.invariant-loop-rest
invariant-loop-rest l = l.text.items ++ escaped l.rest ≡ l.fn.text.items ++ escaped l.bytes

abbrev pub decreases-loop-rest : goal.decreases-loop-rest
decreases-loop-rest l = length l.rest
