use Rattle.seq_model.proofs.Repositories.{owned_made}
use Rattle.seq_top.proofs.judging.finish_in.Goals as goal

pub returns-in_err-make-clause-owns : goal.returns-in_err-make-clause-owns
returns-in_err-make-clause-owns g c told owned =
    owned_made _ _ _ _ _ (c.in_ok-id.ensures.writes.1.3 told) owned (c.in_ok-id.ensures.changes told) (c.in_err-make.ensures.on_the_way told)

pub returns-clause-owns : goal.returns-clause-owns
returns-clause-owns g c told owned =
    owned_made _ _ _ _ _ (c.in_ok-id.ensures.writes.1.3 told) owned (c.in_ok-id.ensures.changes told) (c.in_ok-make.ensures.on_the_way told)
