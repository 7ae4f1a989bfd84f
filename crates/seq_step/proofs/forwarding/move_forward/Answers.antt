use Rattle.seq_step.proofs.forwarding.move_forward.Goals as goal

pub returns-clause-follows : goal.returns-clause-follows
returns-clause-follows g c = λ told. rw c.in_ok-line.ensures.line at (c.move_head.ensures.follows told)
