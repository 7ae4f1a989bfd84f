use Rattle.commit_maker.proofs.showing.judge_with.Goals as goal

pub returns-clause-follows : goal.returns-clause-follows
returns-clause-follows g c = λ told. rw c.requires at (c.hook.ensures.follows told)
