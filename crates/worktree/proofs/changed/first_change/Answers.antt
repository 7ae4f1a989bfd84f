use Rattle.std.proofs.Common.{rules, arith, ◌<◌, Some, length, sym, ap, ◌∙◌}
use Rattle.seq_base.specs.World.{World}
use Rattle.stage_index.specs.Changes.{is_changed}
use Rattle.stage_index.proofs.FirstPassing.{changed_is, fails_at, none_at, order_at, passes_at}
use Rattle.worktree.proofs.changed.first_change.Goals as goal

pub returns-then-branch-clause-found : goal.returns-then-branch-clause-found
returns-then-branch-clause-found g c told =
    let some : 0 < length c.loop-rest.rest.now = omega arith in
    let e = c.entry-item.result in
    let is = ap (λ (w : World). is_changed w e) (sym (c.loop-rest.invariant.same told)) ∙ sym (c.in_ok-is_changed.ensures.told told) ∙ c.if-branch.true in
    ap Some c.in_ok-copy.ensures ∙ passes_at (is_changed (g.S.Store.seen c.args.store.now).content) c.args.index.now c.loop-rest.rest.now e (c.loop-rest.invariant.rest told) c.loop-rest.invariant.order some c.entry-item.is is ∙ changed_is _ _

pub loop-rest-preserved : goal.loop-rest-preserved
loop-rest-preserved g c =
    let some : 0 < length c.loop-rest.rest.now = omega arith in
    let e = c.entry-item.result in
    record {
      rest = λ told.
          let is = ap (λ (w : World). is_changed w e) (sym (c.loop-rest.invariant.same told)) ∙ sym (c.in_ok-is_changed.ensures.told told) ∙ c.if-branch.false in
          fails_at (is_changed (g.S.Store.seen c.args.store.now).content) c.args.index.now c.loop-rest.rest.now e (c.loop-rest.invariant.rest told) some c.entry-item.is is;
      same = λ told. c.in_ok-is_changed.ensures.reads.0 told ∙ c.loop-rest.invariant.same told;
      order = order_at c.loop-rest.rest.now e c.loop-rest.invariant.order some c.entry-item.is;
      cause = search rules;
    }

pub returns-clause-found : goal.returns-clause-found
returns-clause-found g c told =
    none_at (is_changed (g.S.Store.seen c.args.store.now).content) c.args.index.now c.loop-rest.rest.now (c.loop-rest.invariant.rest told) (omega arith)
    ∙ changed_is _ _
