use Rattle.std.proofs.Common.{arith, ap, sym, ◌∙◌, option_map}
use Rattle.seq_words.specs.Rows.{expected_of, rows_of}
use Rattle.seq_words.proofs.Placed.{plain_next}
use Rattle.seq_words.proofs.plain.is_plain.Goals as goal

pub loop-rest-preserved : goal.loop-rest-preserved
loop-rest-preserved c =
    plain_next (rows_of c.args.rows.now) (expected_of c.loop-rest.expected) (expected_of c.in-Some.next) c.loop-rest.rest.now _ c.as_bytes.result.now
    (omega (arith, c.in-len1-up.len_at_least)) c.as_bytes.ensures.value (sym (ap (option_map expected_of) c.in-Some.is) ∙ c.behind_word.ensures)
    ∙ c.loop-rest.invariant
