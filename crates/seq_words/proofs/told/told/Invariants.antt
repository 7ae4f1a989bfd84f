use Rattle.std.proofs.Common.{◌≡◌, length, map}
use Rattle.std.specs.List.{fold}
use Rattle.clap.specs.Words.{app_of, with_rule}
use Rattle.seq_words.specs.Rows.{rows_of}
use Rattle.seq_words.specs.Verbs.{told_app, told_rule}
use Rattle.seq_words.proofs.told.told.Given as goal

abbrev pub invariant-loop-rest : goal.invariant-loop-rest
invariant-loop-rest l = fold with_rule (app_of l.command) (map told_rule (rows_of l.rest)) ≡ told_app (rows_of l.rows)

abbrev pub decreases-loop-rest : goal.decreases-loop-rest
decreases-loop-rest l = length l.rest
