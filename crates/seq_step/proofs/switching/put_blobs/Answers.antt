use Rattle.std.proofs.Common.{rules, arith, ◌<◌, length}
use Rattle.std.proofs.lemmas.Result.{err_from_is_err_and}
use Rattle.seq_step.proofs.Blobs.{all_put, puts_more, puts_stopped}
use Rattle.seq_step.proofs.switching.put_blobs.Goals as goal

pub loop-rest-preserved : goal.loop-rest-preserved
loop-rest-preserved g c =
    let some : 0 < length c.loop-rest.rest.now = omega arith in
    record {
      puts =
          λ told. puts_more _ _ _ c.args.texts.now c.loop-rest.rest.now c.text-item.result (c.loop-rest.invariant.puts told) some c.text-item.is (c.in_ok-put_blob.ensures.turns told);
      cause = search rules;
    }

pub returns-in_err-put_blob-clause-turns : goal.returns-in_err-put_blob-clause-turns
returns-in_err-put_blob-clause-turns g c told =
    let some : 0 < length c.loop-rest.rest.now = omega arith in
    let p = err_from_is_err_and c.from_residual.result c.from_residual.ensures.1 in
    rw (p.1, p.2) (puts_stopped _ _ _ c.args.texts.now c.loop-rest.rest.now c.text-item.result c.in_err-put_blob.field-0.0 (c.loop-rest.invariant.puts told) some c.text-item.is (c.in_err-put_blob.ensures.turns told))

pub returns-clause-turns : goal.returns-clause-turns
returns-clause-turns g c told = all_put _ _ c.args.texts.now c.loop-rest.rest.now (c.loop-rest.invariant.puts told) (omega arith)
