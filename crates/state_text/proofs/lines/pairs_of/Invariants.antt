use Rattle.std.proofs.Common.{◌≡◌, take}
use Rattle.std.specs.List.{flat_map}
use Rattle.state_text.specs.Texts.{pair_line}
use Rattle.state_text.proofs.lines.pairs_of.Given as goal

abbrev pub invariant-loop-old : goal.invariant-loop-old
invariant-loop-old l = l.out.items ≡ flat_map pair_line (take l.old-index l.pairs)
