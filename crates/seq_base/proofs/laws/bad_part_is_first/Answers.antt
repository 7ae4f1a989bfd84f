use Rattle.seq_base.proofs.PlainParts.{first_bad_is}
use Rattle.seq_base.proofs.laws.bad_part_is_first.Goals as goal

pub returns : goal.returns
returns c = first_bad_is c.args.bytes.now c.args.at
