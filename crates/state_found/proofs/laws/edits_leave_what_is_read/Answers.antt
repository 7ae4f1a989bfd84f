use Rattle.state_found.proofs.EditLaws.{edit_read}
use Rattle.state_found.proofs.laws.edits_leave_what_is_read.Goals as goal

pub returns : goal.returns
returns g c = λ new left quiet is. edit_read g.before new c.args.control.now left c.requires quiet is
