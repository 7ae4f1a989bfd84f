use Rattle.seq_model.proofs.Owning.{index_owned}
use Rattle.seq_plumb.proofs.indexing.put_index.Goals as goal

pub returns-in-Ok-clause-owns : goal.returns-in-Ok-clause-owns
returns-in-Ok-clause-owns g c told = index_owned _ _ (c.put.ensures.elsewhere told)

pub returns-in-Err-Failed-clause-owns : goal.returns-in-Err-Failed-clause-owns
returns-in-Err-Failed-clause-owns g c told = index_owned _ _ (c.put.ensures.elsewhere told)
