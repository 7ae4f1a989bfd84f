use Rattle.seq_step.proofs.Lines.{some_ident}
use Rattle.seq_step.proofs.moving.turn_ident.Goals as goal

pub returns-clause-text : goal.returns-clause-text
returns-clause-text c = c.in_ok-text.ensures.text_is

pub returns-clause-who : goal.returns-clause-who
returns-clause-who c = some_ident _ _ c.in_ok-text.ensures
