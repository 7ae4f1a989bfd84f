use Rattle.seq_step.proofs.command.run_command.Goals as goal

pub returns-clause-follows : goal.returns-clause-follows
returns-clause-follows g c = λ told. rw c.in_ok-job.ensures at (c.run_job.ensures.follows told)
