use Rattle.std.proofs.Common.{◌≡◌, take}
use Rattle.std.specs.List.{flat_map}
use Rattle.state_text.specs.Texts.{update_lines}
use Rattle.state_text.proofs.lines.updates_of.Given as goal

abbrev pub invariant-loop-update : goal.invariant-loop-update
invariant-loop-update l = l.out.items ≡ flat_map update_lines (take l.update-index l.updates)
