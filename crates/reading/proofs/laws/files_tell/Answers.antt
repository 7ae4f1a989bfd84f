use Rattle.reading.proofs.Telling.{files_tell}
use Rattle.reading.proofs.laws.files_tell.Goals as goal

pub returns : goal.returns
returns g = λ old new k quiet paused. files_tell old new k quiet paused
