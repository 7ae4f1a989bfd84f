use Rattle.std.proofs.Common.{rules}
use Rattle.seq_model.proofs.Repositories.{keeps_repository}
use Rattle.seq_top.proofs.judging.pick.Goals as goal

pub returns-clause-keeps : goal.returns-clause-keeps
returns-clause-keeps g c told = keeps_repository _ _ (search rules) (g.met.S.Store.shaped _ told)
