use Rattle.std.proofs.Common.{rules, arith, ◌≡◌, ◌<◌, Ok, length, subst, ◌∙◌}
use Rattle.std.proofs.lemmas.Result.{err_from_is_err_and}
use Rattle.seq_base.specs.World.{World}
use Rattle.seq_outside.specs.Halts.{Denies}
use Rattle.stage_index.specs.Stages.{row_of}
use Rattle.worktree.specs.Resets.{row_readable}
use Rattle.worktree.proofs.Resetting.{all_readable, readable_denied, readable_init, readable_more}
use Rattle.worktree.proofs.reset.check_rows.Goals as goal

pub loop-rest-init : goal.loop-rest-init
loop-rest-init g c = record {
  made = λ told. readable_init _ c.args.index.now c.requires;
  same = search rules;
  cause = search rules;
}

pub loop-rest-preserved : goal.loop-rest-preserved
loop-rest-preserved g c =
    let some : 0 < length c.loop-rest.rest.now = omega arith in
    record {
      made = λ told.
          let is = subst (λ (v : World). row_readable v (row_of c.entry-item.result) ≡ Ok tt) (c.loop-rest.invariant.same told) (c.in_ok-check_row.ensures.gives told) in
          readable_more _ c.args.index.now c.loop-rest.rest.now c.entry-item.result (c.loop-rest.invariant.made told) some c.entry-item.is is;
      same = λ told. c.in_ok-check_row.ensures.reads.0 told ∙ c.loop-rest.invariant.same told;
      cause = search rules;
    }

pub returns-in_err-check_row-clause-gives : goal.returns-in_err-check_row-clause-gives
returns-in_err-check_row-clause-gives g c told =
    let some : 0 < length c.loop-rest.rest.now = omega arith in
    let e = c.in_err-check_row.field-0.0 in
    let p = err_from_is_err_and c.from_residual.result c.from_residual.ensures.1 in
    let denied = subst (λ (v : World). Denies e (row_readable v (row_of c.entry-item.result))) (c.loop-rest.invariant.same told) (c.in_err-check_row.ensures.gives told) in
    rw (p.1, p.2) (readable_denied _ c.args.index.now c.loop-rest.rest.now c.entry-item.result e (c.loop-rest.invariant.made told) some c.entry-item.is denied)

pub returns-clause-gives : goal.returns-clause-gives
returns-clause-gives g c told = all_readable _ c.args.index.now c.loop-rest.rest.now (c.loop-rest.invariant.made told) (omega arith)
