use Rattle.std.proofs.Common.{rules, arith, ◌<◌, length}
use Rattle.seq_model.proofs.Owning.{owned_both}
use Rattle.seq_plumb.proofs.Removals.{removed_more}
use Rattle.seq_plumb.proofs.removing.remove_files.Goals as goal

pub loop-rest-preserved : goal.loop-rest-preserved
loop-rest-preserved g c =
    let some : 0 < length c.loop-rest.rest.now = omega arith in
    record {
      turns =
          λ told. removed_more _ _ _ _ _ c.loop-rest.rest.now c.path-item.result (c.loop-rest.invariant.turns told) some c.path-item.is (c.in_ok-remove_file.ensures.turns told);
      owns = λ told. owned_both _ _ _ (c.loop-rest.invariant.owns told) (c.in_ok-remove_file.ensures.owns told);
      cause = search rules;
    }
