use Rattle.state_reading.proofs.UpdateLaws.{updates_recalled}
use Rattle.state_reading.proofs.lines.read_updates.Goals as goal

pub returns : goal.returns
returns c = updates_recalled c.args.bytes.now _ _ c.from_vec.ensures c.in_ok-updates.ensures
