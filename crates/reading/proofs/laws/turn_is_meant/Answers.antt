use Rattle.reading.proofs.Meant.{meant}
use Rattle.reading.proofs.laws.turn_is_meant.Goals as goal

pub returns : goal.returns
returns g c = λ again turn seen o new is found start tape stands. meant g.checks again turn is seen o new found start tape stands
