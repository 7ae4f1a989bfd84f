use Rattle.std.proofs.Common.{Bool, get_or, ◌∙◌, arith}
use Rattle.std.proofs.Math.ListN.{length-set}
use Rattle.tree_merge.specs.declared.plans.Planned.{Planned}
use Rattle.tree_merge.specs.Plans.{is_under}
use Rattle.tree_merge.proofs.Clashes.{any_until}
use Rattle.tree_merge.proofs.Marking.{upper_more, lower_more}
use Rattle.tree_merge.proofs.clash.mark_all.Goals as goal

pub loop-i-preserved : goal.loop-i-preserved
loop-i-preserved c = record {
  uppers_length = omega (arith, length-set {A = Bool}, c.loop-i.invariant.uppers_length);
  lowers_length = omega (arith, c.mark_below.auto.lowers, c.loop-i.invariant.lowers_length);
  upper =
      upper_more c.args.rows.now c.loop-i.uppers c.mark_below.result c.loop-i.i (omega (arith, c.loop-i.invariant.uppers_length, c.loop-i-test.true)) c.mark_below.ensures.upper c.loop-i.invariant.upper;
  lower =
      lower_more c.args.rows.now c.loop-i.lowers c.mark_below.new.lowers c.loop-i.i c.loop-i-test.true c.mark_below.ensures.lower c.loop-i.invariant.lower;
}

pub returns : goal.returns
returns c = record {
  uppers_length = c.loop-i.invariant.uppers_length;
  lowers_length = c.loop-i.invariant.lowers_length;
  upper = λ k d l. c.loop-i.invariant.upper k d (omega arith);
  lower =
      λ k d l. c.loop-i.invariant.lower k d l
      ∙ any_until (λ (s : Planned). is_under s (get_or c.args.rows.now k d)) c.args.rows.now c.loop-i.i (λ j e m n. absurd {0} (omega arith));
}
