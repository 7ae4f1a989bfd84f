use Rattle.seq_abort.proofs.abort.put_head_back.Goals as goal

pub returns-clause-turns : goal.returns-clause-turns
returns-clause-turns g c = λ told. rw (c.in_ok-head.ensures.is, c.in_ok-line.ensures.is) at (c.write_head.ensures.turns told)
