use Rattle.std.proofs.Common.{◌≡◌, take}
use Rattle.ref_text.specs.Packed.{packed_text}
use Rattle.ref_text.proofs.PackedTexts.{HaveIds}
use Rattle.ref_text.proofs.packed.packed_text.Given as goal

abbrev pub invariant-loop-name : goal.invariant-loop-name
invariant-loop-name l = record { written : l.out.items ≡ packed_text (take l.name-index l.refs); ids : HaveIds (take l.name-index l.refs) }
