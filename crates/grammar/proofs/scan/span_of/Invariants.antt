use Rattle.std.proofs.Common.{◌≡◌, drop, take, Some}
use Rattle.grammar.specs.Readers.{word_at, span_at}
use Rattle.grammar.proofs.scan.span_of.Given as goal

abbrev pub invariant-loop-i : goal.invariant-loop-i
invariant-loop-i g l = record {
  same : g.S.Scan.may l.scan ≡ g.S.Scan.may l.fn.scan;
  seen : g.S.Scan.has_seen l.scan (take l.i l.bytes);
  read : word_at (g.S.Scan.may l.fn.scan) (λ w. Some w) l.stop (take l.i l.bytes) (drop l.i l.bytes) ≡ span_at (g.S.Scan.may l.fn.scan) l.stop l.bytes;
}
