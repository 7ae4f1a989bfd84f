use Rattle.std.proofs.Common.{ℕ, suc, ◌≤◌, length, sym, ◌∙◌, arith, eq-eqb}
use Rattle.std.proofs.lemmas.Result.{err_from_is_err_and}
use Rattle.std.proofs.lemmas.Bool.{ne_eqb}
use Rattle.index_file.proofs.Trailers.{shorter, any_bound, trailer_more, trailer_end, trailer_fails, fails_along}
use Rattle.index_file.proofs.read.trailer_of.Goals as goal

pub loop-rest-init : goal.loop-rest-init
loop-rest-init c = λ n le. any_bound n (length c.args.bytes.now) c.args.bytes.now le (omega arith)

pub returns-in_err-rest : goal.returns-in_err-rest
returns-in_err-rest c =
    let p = err_from_is_err_and c.from_residual.result c.from_residual.ensures.1 in
    let other = ne_eqb (length c.loop-rest.rest.now) 20 c.loop-rest-test.true in
    let fails = trailer_fails (length c.loop-rest.rest.now) c.loop-rest.rest.now c.in_err-rest.field-0.0 other c.in_err-rest.ensures in
    rw (p.1, p.2) (fails_along c.in_err-rest.field-0.0 _ _ (c.loop-rest.invariant (suc (length c.loop-rest.rest.now)) (omega arith)) fails)

pub loop-rest-smaller : goal.loop-rest-smaller
loop-rest-smaller c = omega (arith, shorter c.loop-rest.rest.now c.in_ok-rest.rest.now c.in_ok-rest.ensures)

pub loop-rest-preserved : goal.loop-rest-preserved
loop-rest-preserved c = λ n le.
    let other = ne_eqb (length c.loop-rest.rest.now) 20 c.loop-rest-test.true in
    let m : ℕ = length c.loop-rest.rest.now in
    let small : length c.in_ok-rest.rest.now ≤ m = omega (arith, shorter c.loop-rest.rest.now c.in_ok-rest.rest.now c.in_ok-rest.ensures) in
    any_bound n m c.in_ok-rest.rest.now le small ∙ trailer_more m c.loop-rest.rest.now c.in_ok-rest.rest.now other c.in_ok-rest.ensures small ∙ c.loop-rest.invariant (suc m) (omega arith)

pub returns : goal.returns
returns c =
    sym (c.loop-rest.invariant (length c.loop-rest.rest.now) (omega arith))
    ∙ trailer_end (length c.loop-rest.rest.now) c.loop-rest.rest.now (eq-eqb (length c.loop-rest.rest.now) 20 c.loop-rest-test.false)
