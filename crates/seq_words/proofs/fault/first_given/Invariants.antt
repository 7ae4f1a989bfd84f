use Rattle.std.proofs.Common.{◌≡◌, List, length}
use Rattle.seq_model.specs.Faults.{given_rows}
use Rattle.seq_model.specs.Given.{Given}
use Rattle.seq_words.specs.Rows.{rows_of}
use Rattle.seq_words.specs.Told.{Holds}
use Rattle.seq_words.proofs.fault.first_given.Given as goal

abbrev pub invariant-loop-rest : goal.invariant-loop-rest
invariant-loop-rest l = (all : List Given) → Holds l.m all → given_rows all (rows_of l.rest) ≡ given_rows all (rows_of l.rows)

abbrev pub decreases-loop-rest : goal.decreases-loop-rest
decreases-loop-rest l = length l.rest
