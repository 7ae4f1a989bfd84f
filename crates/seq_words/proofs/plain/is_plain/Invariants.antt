use Rattle.std.proofs.Common.{◌≡◌, [], is_some, length, map}
use Rattle.seq_model.specs.Given.{any, given_behind}
use Rattle.seq_words.specs.Rows.{expected_of, rows_of}
use Rattle.seq_words.proofs.plain.is_plain.Given as goal

abbrev pub invariant-loop-rest : goal.invariant-loop-rest
invariant-loop-rest l =
    is_some (given_behind (rows_of l.rows) [] (expected_of l.expected) (map (λ word. word.now) l.rest)) ≡ is_some (given_behind (rows_of l.rows) [] any (map (λ word. word.now) l.words))

abbrev pub decreases-loop-rest : goal.decreases-loop-rest
decreases-loop-rest l = length l.rest
