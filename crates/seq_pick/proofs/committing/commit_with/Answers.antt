use Rattle.std.proofs.lemmas.Result.{err_from_is_err_and}
use Rattle.seq_pick.proofs.Committed.{commit_made, commit_stops}
use Rattle.seq_pick.proofs.committing.commit_with.Goals as goal

pub returns-in_err-move_to-clause-turns : goal.returns-in_err-move_to-clause-turns
returns-in_err-move_to-clause-turns g c told =
    let p = err_from_is_err_and c.from_residual-in_err-move_to.result c.from_residual-in_err-move_to.ensures.1 in
    rw (p.1, p.2) (commit_stops _ _ _ _ _ _ _ _ (c.in_ok-id.ensures.turns told) c.in_err-move_to.field-0.0 (c.in_err-move_to.ensures.turns told))

pub returns-clause-turns : goal.returns-clause-turns
returns-clause-turns g c told = commit_made _ _ _ _ _ _ _ _ (c.in_ok-id.ensures.turns told) (c.in_ok-move_to.ensures.turns told)
