use Rattle.seq_base.proofs.Below.{behind, below_at}
use Rattle.seq_base.proofs.laws.path_below_goes_on.Goals as goal

pub returns : goal.returns
returns c = (behind c.args.folder.now c.args.path.now, below_at c.args.folder.now c.args.path.now)
