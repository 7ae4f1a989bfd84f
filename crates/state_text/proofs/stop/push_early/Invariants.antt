use Rattle.std.proofs.Common.{◌≡◌, ◌++◌, length}
use Rattle.std.specs.Prelude.{filter}
use Rattle.state_text.specs.Stops.{goes_early, remove_all}
use Rattle.state_text.proofs.stop.push_early.Given as goal

abbrev pub invariant-loop-rest : goal.invariant-loop-rest
invariant-loop-rest l =
    l.writes.items ++ remove_all (filter (goes_early l.verb) l.rest)
    ≡ l.fn.writes.items ++ remove_all (filter (goes_early l.verb) l.fn.found)

abbrev pub decreases-loop-rest : goal.decreases-loop-rest
decreases-loop-rest l = length l.rest
