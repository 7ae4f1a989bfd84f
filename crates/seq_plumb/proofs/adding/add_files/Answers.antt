use Rattle.std.proofs.Common.{rules, arith, ◌<◌, length}
use Rattle.seq_model.proofs.Owning.{owned_both}
use Rattle.seq_plumb.proofs.Additions.{added_more}
use Rattle.seq_plumb.proofs.adding.add_files.Goals as goal

pub loop-rest-preserved : goal.loop-rest-preserved
loop-rest-preserved g c =
    let some : 0 < length c.loop-rest.rest.now = omega arith in
    record {
      turns =
          λ told. added_more _ _ _ _ _ _ _ c.loop-rest.rest.now c.path-item.result (c.loop-rest.invariant.turns told) some c.path-item.is (c.in_ok-entries.ensures.turns told);
      order = c.in_ok-entries.ensures.order;
      staged = c.in_ok-entries.ensures.staged;
      owns = λ told. owned_both _ _ _ (c.loop-rest.invariant.owns told) (c.in_ok-entries.ensures.owns told);
      cause = search rules;
    }
