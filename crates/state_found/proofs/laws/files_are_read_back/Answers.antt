use Rattle.state_found.proofs.StopLaws.{files_read}
use Rattle.state_found.proofs.laws.files_are_read_back.Goals as goal

pub returns : goal.returns
returns g c = files_read g.w c.args.control.now c.requires.0 c.requires.1
