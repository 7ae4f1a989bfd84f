use Rattle.seq_start.proofs.Committers.{may_commit}
use Rattle.seq_resume.proofs.resuming.find_committer.Goals as goal

pub returns-clause-may : goal.returns-clause-may
returns-clause-may c = λ secs. may_commit c.args.env.now secs c.args.config.now c.in_ok-who.who c.requires.zone (rw c.as_slice.ensures at c.in_ok-who.ensures.gives)
