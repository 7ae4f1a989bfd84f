use Rattle.std.proofs.Common.{rules, arith, ◌≡◌, ◌<◌, List, Ok, ap, length, refl, subst, ◌∙◌}
use Rattle.std.specs.Prelude.{map}
use Rattle.seq_outside.proofs.Firsts.{first_and_others}
use Rattle.index_file.specs.declared.entry.IndexEntry.{IndexEntry}
use Rattle.stage_index.specs.Stages.{row_of}
use Rattle.worktree.specs.Resets.{rows_readable}
use Rattle.worktree.proofs.Outside.{git_on, git_same, row_as_before, rows_first}
use Rattle.std.proofs.lemmas.Result.{err_from_is_err_and}
use Rattle.worktree.proofs.Resetting.{all_reset, reset_init, reset_more, reset_stopped, rows_are_map}
use Rattle.worktree.proofs.ResetFronts.{rows_all, rows_stopped, so_far_init, so_far_more}
use Rattle.worktree.proofs.reset.reset_rows.Goals as goal

pub loop-rest-init : goal.loop-rest-init
loop-rest-init g c = record {
  made = λ told. reset_init _ c.args.index.now c.requires.indexed;
  git = λ told. git_same _ _ refl;
  left = λ told. ap (rows_readable _) (rows_are_map c.args.index.now c.requires.indexed) ∙ c.requires.readable told;
  so_far = λ told. so_far_init _ c.args.index.now (rows_are_map c.args.index.now c.requires.indexed);
  cause = search rules;
}

pub loop-rest-preserved : goal.loop-rest-preserved
loop-rest-preserved g c =
    let some : 0 < length c.loop-rest.rest.now = omega arith in
    record {
      made =
          λ told. reset_more _ _ _ c.args.index.now c.loop-rest.rest.now c.entry-item.result (c.loop-rest.invariant.made told) some c.entry-item.is (c.in_ok-reset_row.ensures.turns told);
      git = λ told. git_on _ _ _ (c.loop-rest.invariant.git told) (c.in_ok-reset_row.ensures.git told);
      left =
          λ told. (rows_first (g.S.Store.seen c.args.store.now).content (row_of c.entry-item.result) _ (subst (λ (es : List IndexEntry). rows_readable (g.S.Store.seen c.args.store.now).content (map row_of es) ≡ Ok tt) (first_and_others c.loop-rest.rest.now c.entry-item.result some c.entry-item.is) (c.loop-rest.invariant.left told))).1;
      so_far =
          λ told. so_far_more _ _ _ c.args.index.now c.loop-rest.rest.now c.entry-item.result (c.loop-rest.invariant.so_far told) some c.entry-item.is (c.in_ok-reset_row.ensures.turns told);
      cause = search rules;
    }

pub returns-in_err-reset_row-clause-turns : goal.returns-in_err-reset_row-clause-turns
returns-in_err-reset_row-clause-turns g c told =
    let some : 0 < length c.loop-rest.rest.now = omega arith in
    let p = err_from_is_err_and c.from_residual.result c.from_residual.ensures.1 in
    rw (p.1, p.2) (reset_stopped _ _ _ c.args.index.now c.loop-rest.rest.now c.entry-item.result c.in_err-reset_row.field-0.0 (c.loop-rest.invariant.made told) some c.entry-item.is (c.in_err-reset_row.ensures.turns told))

pub returns-clause-turns : goal.returns-clause-turns
returns-clause-turns g c told = all_reset _ _ c.args.index.now c.loop-rest.rest.now (c.loop-rest.invariant.made told) (omega arith)

pub returns-in_err-reset_row-clause-front : goal.returns-in_err-reset_row-clause-front
returns-in_err-reset_row-clause-front g c told =
    let some : 0 < length c.loop-rest.rest.now = omega arith in
    rows_stopped _ _ _ c.args.index.now c.loop-rest.rest.now c.entry-item.result (c.loop-rest.invariant.so_far told) some c.entry-item.is (c.in_err-reset_row.ensures.front told)

pub returns-clause-front : goal.returns-clause-front
returns-clause-front g c told =
    rows_all _ _ c.args.index.now c.loop-rest.rest.now (c.loop-rest.invariant.so_far told)

pub reset_row-requires : goal.reset_row-requires
reset_row-requires g c told =
    let some : 0 < length c.loop-rest.rest.now = omega arith in
    row_as_before _ _ (row_of c.entry-item.result) (c.loop-rest.invariant.git told)
    ∙ (rows_first (g.S.Store.seen c.args.store.now).content (row_of c.entry-item.result) _ (subst (λ (es : List IndexEntry). rows_readable (g.S.Store.seen c.args.store.now).content (map row_of es) ≡ Ok tt) (first_and_others c.loop-rest.rest.now c.entry-item.result some c.entry-item.is) (c.loop-rest.invariant.left told))).0

pub returns-in_err-reset_row-clause-git : goal.returns-in_err-reset_row-clause-git
returns-in_err-reset_row-clause-git g c told = git_on _ _ _ (c.loop-rest.invariant.git told) (c.in_err-reset_row.ensures.git told)
