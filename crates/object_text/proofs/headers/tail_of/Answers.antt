use Rattle.std.proofs.Common.{ℕ, List, Ok, ap, sym, ◌∙◌}
use Rattle.std.proofs.lemmas.Result.{err_from_is_err_and}
use Rattle.object_text.proofs.CommitLoops.{header_more, header_fails, tail_ok, tail_fails, takes_all}
use Rattle.object_text.proofs.headers.tail_of.Goals as goal

pub returns-in_err-line : goal.returns-in_err-line
returns-in_err-line c =
    let p = err_from_is_err_and c.from_residual.result c.from_residual.ensures.1 in
    rw (p.1, p.2) (header_fails c.args.bytes.now c.loop-rest.invariant.0 c.loop-rest.behind c.loop-rest.rest.now c.in_err-line.field-0.0 (sym c.has_header.ensures ∙ c.loop-rest-test.true) c.in_err-line.ensures c.loop-rest.invariant.1)

pub loop-rest-smaller : goal.loop-rest-smaller
loop-rest-smaller c =
    (header_more c.args.bytes.now c.loop-rest.invariant.0 c.loop-rest.behind c.loop-rest.rest.now c.in_ok-line.line.now c.in_ok-line.after.now (sym c.has_header.ensures ∙ c.loop-rest-test.true) c.in_ok-line.ensures c.loop-rest.invariant.1).1

pub loop-rest-preserved : goal.loop-rest-preserved
loop-rest-preserved c = (
  _,
  (header_more c.args.bytes.now c.loop-rest.invariant.0 c.loop-rest.behind c.loop-rest.rest.now c.in_ok-line.line.now c.in_ok-line.after.now (sym c.has_header.ensures ∙ c.loop-rest-test.true) c.in_ok-line.ensures c.loop-rest.invariant.1).0,
  c.in_ok-take_line.ensures c.loop-rest.invariant.0 c.loop-rest.invariant.2,
)

pub returns-in_err-message : goal.returns-in_err-message
returns-in_err-message c =
    let p = err_from_is_err_and c.from_residual-in_err-message.result c.from_residual-in_err-message.ensures.1 in
    rw (p.1, p.2) (tail_fails c.args.bytes.now c.loop-rest.invariant.0 c.loop-rest.behind c.loop-rest.rest.now c.in_err-message.field-0.0 (sym c.has_header.ensures ∙ c.loop-rest-test.false) c.loop-rest.invariant.1 c.in_err-message.ensures)

pub returns : goal.returns
returns c =
    let all = takes_all c.loop-rest.taken.found c.loop-rest.taken.lasts c.loop-rest.taken.value.items c.loop-rest.invariant.0 c.loop-rest.invariant.2 in
    tail_ok c.args.bytes.now c.loop-rest.invariant.0 c.loop-rest.behind c.loop-rest.rest.now c.in_ok-message.message.now c.encoding_of.result (sym c.has_header.ensures ∙ c.loop-rest-test.false) c.loop-rest.invariant.1 c.in_ok-message.ensures (all ∙ sym c.encoding_of.ensures)
    ∙ ap (λ (m : List ℕ). Ok (c.encoding_of.result, m)) (sym (c.from_vec.ensures ∙ c.in_ok-from_slice.ensures.items))
