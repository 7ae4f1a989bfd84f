use Rattle.reading.proofs.Composing.{read_so}
use Rattle.reading.proofs.laws.turn_is_read.Goals as goal

pub returns : goal.returns
returns g c = λ a a' t t' k left does old new end comes. read_so g.P.Spawner.ran g.C.Clock.ticked a a' t t' k left does old new end comes
