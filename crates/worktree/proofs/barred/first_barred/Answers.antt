use Rattle.std.proofs.Common.{rules, arith, ◌<◌, Some, length, sym, ap, ◌∙◌}
use Rattle.seq_base.specs.World.{World}
use Rattle.stage_index.specs.Conflicts.{is_barred}
use Rattle.worktree.proofs.Conflicting.{all_free, barred_at, free_at}
use Rattle.worktree.proofs.barred.first_barred.Goals as goal

pub returns-then-branch-clause-found : goal.returns-then-branch-clause-found
returns-then-branch-clause-found g c told =
    let some : 0 < length c.loop-rest.rest.now = omega arith in
    let f = c.file-item.result in
    let is = ap (λ (w : World). is_barred w c.args.from.now f) (sym (c.loop-rest.invariant.same told)) ∙ sym (c.in_ok-is_barred.ensures.told told) ∙ c.if-branch.true in
    ap Some c.in_ok-copy.ensures ∙ barred_at _ c.args.from.now c.args.files.now c.loop-rest.rest.now f (c.loop-rest.invariant.first told) some c.file-item.is is

pub loop-rest-preserved : goal.loop-rest-preserved
loop-rest-preserved g c =
    let some : 0 < length c.loop-rest.rest.now = omega arith in
    let f = c.file-item.result in
    record {
      first = λ told.
          let is = ap (λ (w : World). is_barred w c.args.from.now f) (sym (c.loop-rest.invariant.same told)) ∙ sym (c.in_ok-is_barred.ensures.told told) ∙ c.if-branch.false in
          free_at _ c.args.from.now c.args.files.now c.loop-rest.rest.now f (c.loop-rest.invariant.first told) some c.file-item.is is;
      same = λ told. c.in_ok-is_barred.ensures.reads.0 told ∙ c.loop-rest.invariant.same told;
      cause = search rules;
    }

pub returns-clause-found : goal.returns-clause-found
returns-clause-found g c told = all_free _ c.args.from.now c.args.files.now c.loop-rest.rest.now (c.loop-rest.invariant.first told) (omega arith)
