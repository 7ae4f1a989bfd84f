use Rattle.std.proofs.Common.{◌≡◌, ◌≤◌, drop, length}
use Rattle.grammar.specs.Readers.{literal_at}
use Rattle.grammar.proofs.fields.behind_literal.Given as goal

abbrev pub invariant-loop-i : goal.invariant-loop-i
invariant-loop-i l = record {
  within : l.i ≤ length l.bytes;
  same : literal_at (drop l.i l.literal) (drop l.i l.bytes) ≡ literal_at l.literal l.bytes;
}
