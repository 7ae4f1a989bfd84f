use Rattle.std.proofs.lemmas.Result.{err_from_is_err_and}
use Rattle.stage_index.specs.Stages.{row_of}
use Rattle.worktree.proofs.Outside.{making_only, row_stops}
use Rattle.worktree.proofs.reset.reset_row.Goals as goal

pub returns-in_err-writes-clause-only_way : goal.returns-in_err-writes-clause-only_way
returns-in_err-writes-clause-only_way g c told =
    let p = err_from_is_err_and c.from_residual.result c.from_residual.ensures.1 in
    rw (p.1, p.2) (row_stops _ (row_of c.args.entry.now) c.in_err-writes.field-0.0 (c.in_err-writes.ensures.gives told) (c.requires told))

pub returns-clause-only_way : goal.returns-clause-only_way
returns-clause-only_way g c told = making_only c.make_writes.result _ _ _ (c.make_writes.ensures.turns told)
