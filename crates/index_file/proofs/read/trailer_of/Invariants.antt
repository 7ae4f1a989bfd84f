use Rattle.std.proofs.Common.{◌≡◌, ℕ, ◌≤◌, length}
use Rattle.index_file.specs.Reading.{trailer_at}
use Rattle.index_file.proofs.read.trailer_of.Given as goal

abbrev pub invariant-loop-rest : goal.invariant-loop-rest
invariant-loop-rest l = (n : ℕ) → length l.rest ≤ n → trailer_at n l.rest ≡ trailer_at (length l.bytes) l.bytes

abbrev pub decreases-loop-rest : goal.decreases-loop-rest
decreases-loop-rest l = length l.rest
