use Rattle.ident_text.proofs.IdentLaws.{sign_length, digits_length}
use Rattle.ident_text.proofs.parts.zone_of.Goals as goal

pub zone_from_parts-requires-clause-sign : goal.zone_from_parts-requires-clause-sign
zone_from_parts-requires-clause-sign c = sign_length c.args.bytes.now c.in_ok-sign.sign.now c.in_ok-sign.rest.now c.in_ok-sign.ensures

pub zone_from_parts-requires-clause-digits : goal.zone_from_parts-requires-clause-digits
zone_from_parts-requires-clause-digits c =
    digits_length c.in_ok-sign.rest.now c.in_ok-digits.digits.now c.in_ok-digits.rest.now c.in_ok-digits.ensures
