use Rattle.std.proofs.Common.{Err}
use Rattle.seq_model.proofs.Judged.{fits_halt, is_plain, read_cause, unmade}
use Rattle.seq_top.proofs.judging.refuse.Goals as goal

pub returns-clause-unmade : goal.returns-clause-unmade
returns-clause-unmade g c = rw c.outcome_of.ensures.outcome (unmade c.unbuilt.result)

pub returns-clause-kind : goal.returns-clause-kind
returns-clause-kind g c = rw c.outcome_of.ensures.outcome (is_plain (Err c.unbuilt.result))

pub returns-clause-fits : goal.returns-clause-fits
returns-clause-fits g c told = rw c.outcome_of.ensures.outcome (fits_halt c.unbuilt.result _ _ (c.unbuilt.ensures.denies told))

pub returns-clause-cause : goal.returns-clause-cause
returns-clause-cause g c = rw c.outcome_of.ensures.outcome (read_cause g.S.Store.told c.unbuilt.result _ _ c.unbuilt.ensures.cause)
