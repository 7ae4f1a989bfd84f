use Rattle.child_steps.proofs.hooks.run_hook.Goals as goal

pub returns-clause-follows : goal.returns-clause-follows
returns-clause-follows g c = λ told. rw c.in_ok-job.ensures at (c.ask_child.ensures.follows told)
