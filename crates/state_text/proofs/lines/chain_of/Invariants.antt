use Rattle.std.proofs.Common.{◌≡◌, take}
use Rattle.std.specs.List.{flat_map}
use Rattle.state_text.specs.Texts.{chain_line}
use Rattle.state_text.proofs.lines.chain_of.Given as goal

abbrev pub invariant-loop-kind : goal.invariant-loop-kind
invariant-loop-kind l = l.out.items ≡ flat_map chain_line (take l.kind-index l.chain)
