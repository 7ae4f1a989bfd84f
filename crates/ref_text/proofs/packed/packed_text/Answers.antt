use Rattle.std.proofs.Common.{arith}
use Rattle.ref_text.proofs.PackedTexts.{all_spelled, ids_more, text_more}
use Rattle.ref_text.proofs.packed.packed_text.Goals as goal

pub loop-name-preserved : goal.loop-name-preserved
loop-name-preserved c = record {
  written =
      text_more c.args.refs.now c.loop-name.name-index c.loop-name-item.result c.loop-name.out.items c.put_line.new.out.items c.as_slice.result.now (omega arith) c.loop-name-item.is c.loop-name.invariant.written c.as_slice.ensures c.in_ok-put_line.ensures.text;
  ids =
      ids_more c.args.refs.now c.loop-name.name-index c.loop-name-item.result (omega arith) c.loop-name-item.is c.loop-name.invariant.ids c.in_ok-put_line.ensures.id;
}

pub returns-clause-spells : goal.returns-clause-spells
returns-clause-spells c =
    all_spelled c.args.refs.now c.loop-name.name-index c.loop-name.out.items (omega arith) c.requires c.loop-name.invariant.written c.loop-name.invariant.ids
