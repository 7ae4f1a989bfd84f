use Rattle.std.proofs.Common.{sym, subst}
use Rattle.seq_start.proofs.Generated.{begins_as_control}
use Rattle.seq_start.specs.Plans.{IsStart}
use Rattle.seq_start.proofs.checked.checked_of.Goals as goal

pub returns-clause-checked : goal.returns-clause-checked
returns-clause-checked c =
    let start = begins_as_control c.args.words.now c.args.on c.args.head c.args.onto c.args.todo c.requires.built c.requires.on in
    record { start = subst IsStart (sym c.control_of.ensures) start; word = c.requires.word }
