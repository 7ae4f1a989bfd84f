use Rattle.seq_resume.proofs.pending.move_to_made.Goals as goal

pub returns-clause-follows : goal.returns-clause-follows
returns-clause-follows g c = λ told. rw c.in_ok-line.ensures.line at (c.move_pending.ensures.follows told)
