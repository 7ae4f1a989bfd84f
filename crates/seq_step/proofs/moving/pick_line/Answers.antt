use Rattle.std.proofs.Common.{subst, sym}
use Rattle.ref_text.specs.Logs.{IsLogValue}
use Rattle.seq_step.proofs.Lines.{line_is_value}
use Rattle.seq_step.proofs.moving.pick_line.Goals as goal

pub returns-clause-value : goal.returns-clause-value
returns-clause-value c =
    subst IsLogValue (sym c.in_ok-line.ensures) (line_is_value c.args.subject.now c.args.head c.args.id c.args.ident.now c.requires.who c.requires.subject)
