use Rattle.std.proofs.Common.{ap, ◌≡◌}
use Rattle.seq_base.specs.declared.id.IdFault.TheVariants.{Digit}
use Rattle.seq_base.proofs.Hexes.{accepted, refused}
use Rattle.seq_base.proofs.id.Id.from_hex.Goals as goal

pub invariant_of-result : goal.invariant_of-result
invariant_of-result c =
    accepted c.args.text.now c.decode_to_slice.new.out c.decode_to_slice.result c.if-text-ne40.false c.decode_to_slice.ensures.value c.in-Ok.is

pub unreachable-requires : goal.unreachable-requires
unreachable-requires c =
    let bad = refused c.args.text.now c.decode_to_slice.new.out c.decode_to_slice.result c.in-Err.e c.if-text-ne40.false c.decode_to_slice.ensures.value c.in-Err.is in
    c.in_default.not-InvalidHexCharacter _ _ bad.1

pub returns-in-InvalidHexCharacter-clause-digit : goal.returns-in-InvalidHexCharacter-clause-digit
returns-in-InvalidHexCharacter-clause-digit c =
    let bad = refused c.args.text.now c.decode_to_slice.new.out c.decode_to_slice.result c.in-Err.e c.if-text-ne40.false c.decode_to_slice.ensures.value c.in-Err.is in
    let same : c.in-InvalidHexCharacter.index ≡ bad.0 = cc (bad.1, c.in-InvalidHexCharacter.is) in
    λ _. (bad.0, ap Digit same, bad.2)
