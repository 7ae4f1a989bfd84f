use Rattle.rev_names.specs.Bases.{label_ref as label_ref_of}
use Rattle.rev_names.proofs.base.label_ref.Goals as goal

pub returns-clause-gives : goal.returns-clause-gives
unfolding label_ref_of
returns-clause-gives g c = λ told. let same = c.in_ok-name.ensures in let found = c.first_ref.ensures.gives told in rw (← same) found
