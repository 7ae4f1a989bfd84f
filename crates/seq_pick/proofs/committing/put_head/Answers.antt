use Rattle.seq_model.proofs.Owning.{head_owned}
use Rattle.seq_pick.proofs.committing.put_head.Goals as goal

pub returns-in-Ok-clause-owns : goal.returns-in-Ok-clause-owns
returns-in-Ok-clause-owns g c told = head_owned c.args.on.now c.requires.on _ _ (c.move_head.ensures.elsewhere told)

pub returns-in-Err-clause-owns : goal.returns-in-Err-clause-owns
returns-in-Err-clause-owns g c told = head_owned c.args.on.now c.requires.on _ _ (c.move_head.ensures.elsewhere told)
