use Rattle.std.proofs.Common.{rules, ap, sym, ◌∙◌}
use Rattle.seq_base.specs.World.{World}
use Rattle.worktree.specs.Folders.{is_file_before}
use Rattle.worktree.proofs.Obstacles.{above_found, above_more, above_none}
use Rattle.worktree.proofs.obstacle.stands_above.Goals as goal

pub returns-then-branch-clause-told : goal.returns-then-branch-clause-told
returns-then-branch-clause-told g c told =
    let is = ap (λ (w : World). is_file_before w c.args.from.now c.args.path.now c.loop-n.n) (sym (c.loop-n.invariant.same told)) ∙ sym (c.in_ok-stands_before.ensures.told told) ∙ c.if-branch.true in
    above_found _ c.args.from.now c.args.path.now c.loop-n.n c.loop-n-test.true is

pub loop-n-preserved : goal.loop-n-preserved
loop-n-preserved g c = record {
  none = λ told.
      let is = ap (λ (w : World). is_file_before w c.args.from.now c.args.path.now c.loop-n.n) (sym (c.loop-n.invariant.same told)) ∙ sym (c.in_ok-stands_before.ensures.told told) ∙ c.if-branch.false in
      above_more _ c.args.from.now c.args.path.now c.loop-n.n is (c.loop-n.invariant.none told);
  same = λ told. c.in_ok-stands_before.ensures.reads.0 told ∙ c.loop-n.invariant.same told;
  cause = search rules;
}

pub returns-clause-told : goal.returns-clause-told
returns-clause-told g c told = above_none _ c.args.from.now c.args.path.now c.loop-n.n c.loop-n-test.false (c.loop-n.invariant.none told)
