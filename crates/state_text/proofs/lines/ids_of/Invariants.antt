use Rattle.std.proofs.Common.{◌≡◌, take}
use Rattle.std.specs.List.{flat_map}
use Rattle.state_text.specs.Texts.{id_line}
use Rattle.state_text.proofs.lines.ids_of.Given as goal

abbrev pub invariant-loop-id : goal.invariant-loop-id
invariant-loop-id l = l.out.items ≡ flat_map id_line (take l.id-index l.ids)
