use Rattle.std.proofs.Common.{◌≡◌, ◌++◌, drop}
use Rattle.std.specs.List.{flat_map}
use Rattle.state_text.specs.Texts.{pair_line}
use Rattle.seq_lines.proofs.end.pairs_text.Given as goal

abbrev pub invariant-loop-pair : goal.invariant-loop-pair
invariant-loop-pair l = l.text.items ++ flat_map pair_line (drop l.pair-index l.pairs) ≡ flat_map pair_line l.pairs
