use Rattle.state_reading.proofs.LineLaws.{pairs_recalled}
use Rattle.state_reading.proofs.lines.read_rewritten.Goals as goal

pub returns : goal.returns
returns c = pairs_recalled c.args.bytes.now _ _ c.from_vec.ensures c.in_ok-pairs.ensures
