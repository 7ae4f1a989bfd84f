use Rattle.ref_store.proofs.read.+end_from.Given as goal

abbrev pub decreases-end_from : goal.decreases-end_from
decreases-end_from g l = l.left
