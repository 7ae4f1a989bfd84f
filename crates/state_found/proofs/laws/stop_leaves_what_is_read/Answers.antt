use Rattle.state_found.proofs.StopLaws.{stop_read}
use Rattle.state_found.proofs.laws.stop_leaves_what_is_read.Goals as goal

pub returns : goal.returns
returns g c = stop_read g.w c.args.control.now c.args.more.now c.args.found.now c.requires.1 c.requires.0
