use Rattle.std.proofs.Common.{◌≡◌, take}
use Rattle.std.specs.List.{flat_map}
use Rattle.state_text.specs.Texts.{label_line}
use Rattle.state_text.proofs.lines.labels_of.Given as goal

abbrev pub invariant-loop-label : goal.invariant-loop-label
invariant-loop-label l = l.out.items ≡ flat_map label_line (take l.label-index l.labels)
