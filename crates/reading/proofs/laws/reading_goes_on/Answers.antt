use Rattle.reading.proofs.Turns.{meaning-more}
use Rattle.reading.proofs.laws.reading_goes_on.Goals as goal

pub returns : goal.returns
returns g c = λ start tape turn seen. meaning-more g.checks start tape turn seen
