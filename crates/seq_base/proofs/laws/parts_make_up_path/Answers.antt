use Rattle.std.proofs.lemmas.List.Splits.{join_with_byte-slice_split}
use Rattle.seq_base.proofs.laws.parts_make_up_path.Goals as goal

pub returns : goal.returns
returns c = join_with_byte-slice_split 47 c.args.bytes.now
