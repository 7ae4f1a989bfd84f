use Rattle.std.proofs.Common.{◌≡◌, ◌++◌, length}
use Rattle.std.specs.Prelude.{filter}
use Rattle.state_text.specs.Stops.{is_stale, remove_all}
use Rattle.state_text.proofs.stop.push_stale.Given as goal

abbrev pub invariant-loop-rest : goal.invariant-loop-rest
invariant-loop-rest l =
    l.writes.items ++ remove_all (filter (is_stale l.verb l.files) l.rest)
    ≡ l.fn.writes.items ++ remove_all (filter (is_stale l.verb l.files) l.fn.found)

abbrev pub decreases-loop-rest : goal.decreases-loop-rest
decreases-loop-rest l = length l.rest
