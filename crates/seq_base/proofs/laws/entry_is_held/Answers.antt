use Rattle.seq_base.proofs.Lookups.{held}
use Rattle.seq_base.proofs.laws.entry_is_held.Goals as goal

pub returns : goal.returns
returns c = λ map. held c.args.entries.now map c.args.path.now c.args.entry
