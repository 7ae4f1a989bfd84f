use Rattle.reading.proofs.Kept.{kept}
use Rattle.reading.proofs.laws.stop_is_kept.Goals as goal

pub returns : goal.returns
returns g c = λ start tape why failed k v is. kept g.checks start tape why failed k v is
