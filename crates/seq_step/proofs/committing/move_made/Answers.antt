use Rattle.seq_step.proofs.committing.move_made.Goals as goal

pub returns-clause-follows : goal.returns-clause-follows
returns-clause-follows g c = λ told. rw (c.in_ok-line.ensures.line, c.as_slice.ensures, c.as_slice-2.ensures) at (c.move_head.ensures.follows told)
