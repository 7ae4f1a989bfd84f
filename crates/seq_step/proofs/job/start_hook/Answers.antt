use Rattle.seq_step.proofs.job.start_hook.Goals as goal

pub returns-clause-follows : goal.returns-clause-follows
returns-clause-follows g c = λ told. rw c.in_ok-job.ensures at (c.end_hook.ensures.follows told)
