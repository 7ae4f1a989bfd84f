use Rattle.reading.proofs.Leaving.{stands_on}
use Rattle.reading.specs.Readings.{judged, meaning}
use Rattle.reading.specs.Tapes.{this_call}
use Rattle.std.proofs.Common.{◌++◌}
use Rattle.reading.proofs.laws.turn_leaves_it_there.Goals as goal

pub returns : goal.returns
returns g c = λ again turn seen o new start tape stands turned.
    let before = (meaning g.checks start tape).ending in
    let after = meaning g.checks start (tape ++ this_call turn seen) in
    stands_on seen before (judged g.checks again turn before) after o turn.world new stands turned
