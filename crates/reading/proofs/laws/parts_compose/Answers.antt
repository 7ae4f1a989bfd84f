use Rattle.reading.proofs.Composing.{stopped, then}
use Rattle.reading.proofs.laws.parts_compose.Goals as goal

pub returns : goal.returns
returns g c = record {
  goes = λ a a' a'' t t' t'' first next old mid new x end one two.
      then g.P.Spawner.ran g.C.Clock.ticked a a' t t' first next old mid a'' t'' x end new one two;
  stops = λ a a' t t' first next old mid why one. stopped g.P.Spawner.ran g.C.Clock.ticked a a' t t' first next old mid why one;
}
