use Rattle.commit_maker.specs.Messages.{prepare_commit_msg}
use Rattle.commit_maker.proofs.showing.prepare_with.Goals as goal

pub returns-clause-follows : goal.returns-clause-follows
unfolding prepare_commit_msg
returns-clause-follows g c = λ told. rw c.requires at (c.hook.ensures.follows told)
