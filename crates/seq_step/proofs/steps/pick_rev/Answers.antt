use Rattle.seq_step.proofs.steps.pick_rev.Goals as goal

pub returns-clause-follows : goal.returns-clause-follows
returns-clause-follows g c = λ told. rw c.as_slice.ensures at (c.pick.ensures.follows told)
