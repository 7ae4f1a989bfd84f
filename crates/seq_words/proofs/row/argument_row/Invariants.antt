use Rattle.std.proofs.Common.{◌≡◌, length}
use Rattle.seq_model.specs.Given.{argument_row}
use Rattle.seq_words.specs.Rows.{rows_of}
use Rattle.seq_words.proofs.row.argument_row.Given as goal

abbrev pub invariant-loop-rest : goal.invariant-loop-rest
invariant-loop-rest l = argument_row (rows_of l.rest) ≡ argument_row (rows_of l.rows)

abbrev pub decreases-loop-rest : goal.decreases-loop-rest
decreases-loop-rest l = length l.rest
