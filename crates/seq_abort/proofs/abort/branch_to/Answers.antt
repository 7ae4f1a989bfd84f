use Rattle.seq_abort.proofs.abort.branch_to.Goals as goal

pub returns-clause-turns : goal.returns-clause-turns
returns-clause-turns g c = λ told. rw (c.in_ok-line.ensures.is, c.as_slice.ensures, c.as_slice-2.ensures) at (c.note_branch.ensures.turns told)
