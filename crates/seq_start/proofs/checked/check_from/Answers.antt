use Rattle.std.specs.Prelude.{Ok}
use Rattle.std.proofs.lemmas.Result.{err_from_is_err_and}
use Rattle.seq_start.specs.Checks.{checked_as, checked_from, todo_at}
use Rattle.seq_start.proofs.Denying.{denied_first}
use Rattle.seq_start.proofs.checked.check_from.Goals as goal

pub returns-in_err-head-clause-gives : goal.returns-in_err-head-clause-gives
unfolding checked_from
returns-in_err-head-clause-gives g c told =
    let a = c.args in
    let w = (g.S.Store.seen a.store.now).content in
    let found = todo_at a.words.now a.env.now a.place.tip a.config.now a.index.now a.upstream w in
    let p = err_from_is_err_and c.from_residual.result c.from_residual.ensures.1 in
    rw (p.1, p.2) (denied_first c.in_err-head.field-0.0 found
    (λ found. Ok (checked_as a.words.now a.env.now a.place.head a.config.now a.upstream_word a.onto_word a.onto found.0 found.1))
    (c.in_err-head.ensures.gives told))
