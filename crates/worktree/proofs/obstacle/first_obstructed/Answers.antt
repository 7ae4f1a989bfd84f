use Rattle.std.proofs.Common.{rules, arith, ◌<◌, Some, length, sym, ap, ◌∙◌}
use Rattle.seq_base.specs.World.{World}
use Rattle.stage_index.specs.Stages.{row_of}
use Rattle.stage_index.specs.Switching.{is_obstructed}
use Rattle.stage_index.proofs.FirstPassing.{fails_at, none_at, obstructed_is, order_at, passes_at}
use Rattle.worktree.proofs.obstacle.first_obstructed.Goals as goal

pub returns-then-branch-clause-found : goal.returns-then-branch-clause-found
returns-then-branch-clause-found g c told =
    let some : 0 < length c.loop-rest.rest.now = omega arith in
    let e = c.entry-item.result in
    let is = ap (λ (w : World). is_obstructed w c.args.from.now (row_of e)) (sym (c.loop-rest.invariant.same told)) ∙ sym (c.in_ok-is_obstructed.ensures.told told) ∙ c.if-branch.true in
    ap Some c.in_ok-copy.ensures
    ∙ passes_at (λ e. is_obstructed (g.S.Store.seen c.args.store.now).content c.args.from.now (row_of e)) c.args.to.now c.loop-rest.rest.now e (c.loop-rest.invariant.rest told) c.loop-rest.invariant.order some c.entry-item.is is
    ∙ obstructed_is _ _ _

pub loop-rest-preserved : goal.loop-rest-preserved
loop-rest-preserved g c =
    let some : 0 < length c.loop-rest.rest.now = omega arith in
    let e = c.entry-item.result in
    record {
      rest = λ told.
          let is = ap (λ (w : World). is_obstructed w c.args.from.now (row_of e)) (sym (c.loop-rest.invariant.same told)) ∙ sym (c.in_ok-is_obstructed.ensures.told told) ∙ c.if-branch.false in
          fails_at (λ e. is_obstructed (g.S.Store.seen c.args.store.now).content c.args.from.now (row_of e)) c.args.to.now c.loop-rest.rest.now e (c.loop-rest.invariant.rest told) some c.entry-item.is is;
      same = λ told. c.in_ok-is_obstructed.ensures.reads.0 told ∙ c.loop-rest.invariant.same told;
      order = order_at c.loop-rest.rest.now e c.loop-rest.invariant.order some c.entry-item.is;
      cause = search rules;
    }

pub returns-clause-found : goal.returns-clause-found
returns-clause-found g c told =
    none_at (λ e. is_obstructed (g.S.Store.seen c.args.store.now).content c.args.from.now (row_of e)) c.args.to.now c.loop-rest.rest.now (c.loop-rest.invariant.rest told) (omega arith)
    ∙ obstructed_is _ _ _
