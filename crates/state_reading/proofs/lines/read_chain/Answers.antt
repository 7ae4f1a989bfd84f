use Rattle.state_reading.proofs.LineLaws.{chain_recalled}
use Rattle.state_reading.proofs.lines.read_chain.Goals as goal

pub returns : goal.returns
returns c = chain_recalled c.args.bytes.now _ _ c.from_vec.ensures c.in_ok-items.ensures
