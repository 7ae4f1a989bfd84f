use Rattle.ref_text.proofs.PackedLoops.{no_others}
use Rattle.ref_text.proofs.laws.packed_refs_read_back.Goals as goal

pub returns-clause-alone : goal.returns-clause-alone
returns-clause-alone c = no_others c.args.refs.now c.args.others.now c.args.text.now c.requires
