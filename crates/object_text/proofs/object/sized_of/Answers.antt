use Rattle.std.proofs.Common.{ℕ, ◌<◌, ◌-◌, ◌^◌, length, arith, Err, ap, sym, ◌∙◌}
use Rattle.std.proofs.lemmas.Result.{err_from_is_err_and}
use Rattle.object_text.proofs.ObjectLaws.{size_err, size_short, size_long, size_fits}
use Rattle.object_text.proofs.object.sized_of.Goals as goal

pub returns-in_err-size : goal.returns-in_err-size
returns-in_err-size c =
    let p = err_from_is_err_and c.from_residual.result c.from_residual.ensures.1 in
    rw (p.1, p.2) (size_err c.args.bytes.now c.in_err-size.field-0.0 c.in_err-size.ensures)

pub returns-then-found-size : goal.returns-then-found-size
returns-then-found-size c =
    size_short c.args.bytes.now c.in_ok-size.content.now c.in_ok-size.size c.in_ok-size.ensures (let same = c.len_of-found.ensures.same in omega arith)

pub returns-then-size-found : goal.returns-then-size-found
returns-then-size-found c =
    let same = c.len_of-found.ensures.same in
    let small = c.len_of-found.ensures.small in
    let fits : length c.in_ok-size.content.now < 2 ^ 64 - 1 = omega arith in
    size_long c.args.bytes.now c.in_ok-size.content.now c.in_ok-size.size c.in_ok-size.ensures fits (omega arith) ∙ ap (λ (n : ℕ). Err (n - c.in_ok-size.size)) (sym same)

pub returns : goal.returns
returns c =
    let fits : length c.in_ok-size.content.now < 2 ^ 64 - 1 = let small = c.len_of-found.ensures.small in let same = c.len_of-found.ensures.same in omega arith in
    size_fits c.args.bytes.now c.in_ok-size.content.now c.in_ok-size.size c.in_ok-size.ensures fits (let same = c.len_of-found.ensures.same in omega arith)
