use Rattle.std.proofs.Common.{◌≡◌, ◌++◌, length}
use Rattle.state_text.specs.Stops.{put_all}
use Rattle.state_text.proofs.stop.push_puts.Given as goal

abbrev pub invariant-loop-rest : goal.invariant-loop-rest
invariant-loop-rest l = l.writes.items ++ put_all l.rest ≡ l.fn.writes.items ++ put_all l.fn.files

abbrev pub decreases-loop-rest : goal.decreases-loop-rest
decreases-loop-rest l = length l.rest
