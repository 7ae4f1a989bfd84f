use Rattle.seq_resume.proofs.pending.make_pending.Goals as goal

pub returns-clause-follows : goal.returns-clause-follows
returns-clause-follows g c = λ told. rw c.in_ok-making.ensures.making at (c.make_or_stop.ensures.follows told)
