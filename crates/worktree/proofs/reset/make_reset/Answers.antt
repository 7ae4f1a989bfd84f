use Rattle.std.proofs.Common.{◌∙◌}
use Rattle.std.proofs.lemmas.Result.{err_from_is_err_and}
use Rattle.stage_index.specs.Stages.{map_of}
use Rattle.worktree.proofs.Outside.{git_on, making_stops, own_stays, rows_as_before}
use Rattle.worktree.proofs.reset.make_reset.Goals as goal

pub returns-in_err-make_writes-clause-only_way : goal.returns-in_err-make_writes-clause-only_way
returns-in_err-make_writes-clause-only_way g c told =
    let p = err_from_is_err_and c.from_residual-in_err-make_writes.result c.from_residual-in_err-make_writes.ensures.1 in
    rw (p.1, p.2) (making_stops _ _ _ c.in_err-make_writes.field-0.0 (c.in_err-make_writes.ensures.turns told))

pub reset_rows-requires-clause-readable : goal.reset_rows-requires-clause-readable
reset_rows-requires-clause-readable g c told =
    rows_as_before _ _ (map_of c.args.index.now) (own_stays _ _ _ c.in_ok-writes.ensures.own (c.in_ok-make_writes.ensures.elsewhere told)) ∙ c.requires.readable told

pub returns-clause-git : goal.returns-clause-git
returns-clause-git g c told =
    git_on _ _ _ (own_stays _ _ _ c.in_ok-writes.ensures.own (c.in_ok-make_writes.ensures.elsewhere told)) (c.reset_rows.ensures.git told)
