use Rattle.std.proofs.Common.{length}
use Rattle.rev_names.proofs.refs.+first_ref.Given as goal

abbrev pub decreases-first_ref : goal.decreases-first_ref
decreases-first_ref g l = length l.names.now
