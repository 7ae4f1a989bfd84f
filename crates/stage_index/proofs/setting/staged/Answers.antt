use Rattle.std.proofs.Common.{arith, ◌<◌, length}
use Rattle.stage_index.proofs.Stagings.{all_staged, staged_more}
use Rattle.stage_index.proofs.setting.staged.Goals as goal

pub loop-rest-preserved : goal.loop-rest-preserved
loop-rest-preserved c =
    let some : 0 < length c.loop-rest.rest.now = omega arith in
    record {
      so_far =
          staged_more c.args.path.now c.args.stages.now c.loop-rest.rest.now c.loop-rest.stage c.entry-item.result c.loop-rest.entries.items c.push_stage.new.entries.items c.loop-rest.invariant.so_far some c.entry-item.is c.in_ok-push_stage.ensures;
      few = let was = c.loop-rest.invariant.few in omega arith;
    }

pub returns : goal.returns
returns c =
    all_staged c.args.path.now c.args.stages.now c.loop-rest.rest.now c.loop-rest.stage c.loop-rest.entries.items c.loop-rest.invariant.so_far (omega arith)
