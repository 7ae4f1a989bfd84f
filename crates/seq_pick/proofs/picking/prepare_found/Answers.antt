use Rattle.std.proofs.lemmas.Result.{err_from_is_err_and}
use Rattle.seq_pick.specs.Finding.{finding_is}
use Rattle.seq_pick.proofs.Committed.{prepared_stops}
use Rattle.seq_pick.proofs.picking.prepare_found.Goals as goal

pub returns-in_err-tree-clause-turns : goal.returns-in_err-tree-clause-turns
returns-in_err-tree-clause-turns g c told =
    let p = err_from_is_err_and c.from_residual.result c.from_residual.ensures.1 in
    rw (p.1, p.2) (prepared_stops (finding_is c.args.found) c.in_err-tree.field-0.0 _ _ (c.in_err-tree.ensures.turns told))
