use Rattle.reading.proofs.Lists.{are_meant}
use Rattle.reading.proofs.laws.list_is_meant.Goals as goal

pub returns : goal.returns
returns g c = λ start tape w is stands quiet found. are_meant g.checks start tape w is stands quiet found
