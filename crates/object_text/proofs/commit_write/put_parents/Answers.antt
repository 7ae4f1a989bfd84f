use Rattle.object_text.proofs.CommitValues.{parent_more, spelled_more}
use Rattle.object_text.proofs.commit_write.put_parents.Goals as goal

pub loop-parent-preserved : goal.loop-parent-preserved
loop-parent-preserved c = record {
  written =
      parent_more c.put_id.new.out.items c.loop-parent.out.items c.args.out.now.items c.args.parents.now c.loop-parent.parent-index c.parent-item.result c.loop-parent-test.true c.parent-item.is c.in_ok-put_id.ensures.text c.loop-parent.invariant.written;
  spelled =
      spelled_more c.args.parents.now c.loop-parent.parent-index c.parent-item.result c.loop-parent-test.true c.parent-item.is c.in_ok-put_id.ensures.spelled c.loop-parent.invariant.spelled;
}
