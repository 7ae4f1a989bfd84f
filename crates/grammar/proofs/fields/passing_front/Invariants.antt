use Rattle.std.proofs.Common.{◌≡◌, ◌-◌, ◌≤◌, drop, length, take}
use Rattle.grammar.specs.Readers.{passing_at}
use Rattle.grammar.proofs.Passing.{with_bytes}
use Rattle.grammar.proofs.fields.passing_front.Given as goal

abbrev pub invariant-loop-i : goal.invariant-loop-i
invariant-loop-i g l = record {
  within : l.i ≤ length l.bytes;
  same : with_bytes (take l.i l.bytes) (passing_at (g.T.ByteTest.passes l.test) (l.count - l.i) (drop l.i l.bytes)) ≡ passing_at (g.T.ByteTest.passes l.test) l.count l.bytes;
}
