use Rattle.std.proofs.Common.{◌≡◌, eqb, length, false, sym, ◌∙◌, arith}
use Rattle.std.proofs.lemmas.Bool.{eqb-false}
use Rattle.ident_text.proofs.Secs.{minus_digits, minus_positive}
use Rattle.ident_text.proofs.parts.minus_number.Goals as goal

pub negated-requires : goal.negated-requires
negated-requires c =
    let empty : eqb (length c.args.digits.now) 0 ≡ false = sym c.is_empty.ensures ∙ c.if-is_empty.false in
    let some = eqb-false (length c.args.digits.now) 0 empty in
    let most = (minus_digits c.args.digits.now c.requires).2 in
    let least = minus_positive c.args.digits.now c.requires (omega arith) in
    let capped = c.capped_value.ensures in
    (omega arith, omega arith)
