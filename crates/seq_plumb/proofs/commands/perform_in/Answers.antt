use Rattle.seq_model.proofs.Repositories.{owned_made}
use Rattle.seq_plumb.proofs.commands.perform_in.Goals as goal

pub returns-in_err-make-clause-owns : goal.returns-in_err-make-clause-owns
returns-in_err-make-clause-owns g c told owned =
    owned_made _ _ _ _ _ (c.in_ok-reply.ensures.writes.1.3 told) owned (c.in_ok-reply.ensures.owns told) (c.in_err-make.ensures.on_the_way told)
