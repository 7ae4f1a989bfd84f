use Rattle.std.proofs.Common.{◌≡◌, ◌+◌, ◌≤◌}
use Rattle.grammar.specs.Lines.{line_of_place}
use Rattle.grammar.proofs.lines.line_of_place.Given as goal

abbrev pub invariant-loop-i : goal.invariant-loop-i
invariant-loop-i l = record { number : l.line ≡ line_of_place l.i l.bytes; small : l.line ≤ 1 + l.i }
