use Rattle.std.proofs.Common.{subst, sym}
use Rattle.ref_text.specs.Logs.{IsMessage}
use Rattle.seq_step.proofs.Lines.{subject_is_message}
use Rattle.seq_step.proofs.forwarding.subject_of.Goals as goal

pub returns-clause-message : goal.returns-clause-message
returns-clause-message c = subst IsMessage (sym c.in_ok-text.ensures) (subject_is_message c.args.message.now)
