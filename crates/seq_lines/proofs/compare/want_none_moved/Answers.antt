use Rattle.std.proofs.Common.{rules, arith, ◌<◌, length}
use Rattle.std.proofs.lemmas.Result.{err_from_is_err_and}
use Rattle.seq_lines.proofs.Compared.{others_are, unmoved_so_far, one_moved}
use Rattle.seq_lines.proofs.compare.want_none_moved.Goals as goal

pub loop-rest-preserved : goal.loop-rest-preserved
loop-rest-preserved g c =
    let some : 0 < length c.loop-rest.rest.now = omega arith in
    record {
      refs = others_are c.loop-rest.rest.now c.r-item.result some c.r-item.is c.loop-rest.invariant.refs;
      rest =
          λ told. unmoved_so_far _ _ c.args.refs.now c.loop-rest.rest.now c.r-item.result (c.loop-rest.invariant.same told)
          (c.loop-rest.invariant.rest told) some c.r-item.is (c.in_ok-want_unmoved.ensures.gives told);
      same = search rules;
      cause = search rules;
    }

pub returns-in_err-want_unmoved-clause-gives : goal.returns-in_err-want_unmoved-clause-gives
returns-in_err-want_unmoved-clause-gives g c told =
    let some : 0 < length c.loop-rest.rest.now = omega arith in
    let p = err_from_is_err_and c.from_residual.result c.from_residual.ensures.1 in
    rw (p.1, p.2)
    (one_moved _ _ c.args.refs.now c.loop-rest.rest.now c.r-item.result c.in_err-want_unmoved.field-0.0 (c.loop-rest.invariant.same told)
    (c.loop-rest.invariant.rest told) some c.r-item.is (c.in_err-want_unmoved.ensures.gives told))
