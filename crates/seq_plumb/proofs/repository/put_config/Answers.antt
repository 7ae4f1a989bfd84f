use Rattle.seq_model.proofs.Owning.{config_owned}
use Rattle.seq_plumb.proofs.repository.put_config.Goals as goal

pub returns-in-Ok-clause-owns : goal.returns-in-Ok-clause-owns
returns-in-Ok-clause-owns g c told = config_owned _ _ (c.put.ensures.elsewhere told)

pub returns-in-Err-Failed-clause-owns : goal.returns-in-Err-Failed-clause-owns
returns-in-Err-Failed-clause-owns g c told = config_owned _ _ (c.put.ensures.elsewhere told)
