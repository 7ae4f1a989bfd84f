use Rattle.state_reading.proofs.LineLaws.{ids_recalled}
use Rattle.state_reading.proofs.lines.read_waiting.Goals as goal

pub returns : goal.returns
returns c = ids_recalled c.args.bytes.now _ _ c.from_vec.ensures c.in_ok-ids.ensures
