use Rattle.std.proofs.Common.{◌≡◌, length}
use Rattle.seq_model.specs.Given.{row_named}
use Rattle.seq_words.specs.Rows.{rows_of}
use Rattle.seq_words.proofs.row.row_named.Given as goal

abbrev pub invariant-loop-rest : goal.invariant-loop-rest
invariant-loop-rest l = row_named (rows_of l.rest) l.name ≡ row_named (rows_of l.rows) l.name

abbrev pub decreases-loop-rest : goal.decreases-loop-rest
decreases-loop-rest l = length l.rest
