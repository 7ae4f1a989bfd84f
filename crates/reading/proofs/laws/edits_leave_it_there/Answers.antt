use Rattle.reading.proofs.Leaving.{stands_through}
use Rattle.reading.proofs.laws.edits_leave_it_there.Goals as goal

pub returns : goal.returns
returns g = λ ending old new quiet stands. stands_through ending old new quiet stands
