use Rattle.std.proofs.Common.{arith, sym, ◌∙◌}
use Rattle.std.proofs.lemmas.List.{take_rest}
use Rattle.std.proofs.lemmas.Bool.Decides.{nat_tests}
use Rattle.attr_rules.proofs.Sets.{range_step, byte_step}
use Rattle.attr_rules.proofs.piece.first_has.Goals as goal
use Rattle.attr_rules.proofs.piece.first_has.Goals.{then-low-byte, else-low-byte}

pub returns-after-low-byte-clause-same : goal.returns-after-low-byte-clause-same
returns-after-low-byte-clause-same c =
    rw take_rest (range_step c.args.members.now c.args.byte _ c.if-low-byte.has c.in-len3-up.len_at_least (sym c.is_plain.ensures ∙ c.if-is_plain.true)
    (elim c.if-low-byte.branch [ then-low-byte w ↦ grind (arith, nat_tests) | else-low-byte w ↦ grind (arith, nat_tests) ]))

pub returns-else-is_plain-clause-same : goal.returns-else-is_plain-clause-same
returns-else-is_plain-clause-same c =
    rw take_rest (byte_step c.args.members.now c.args.byte _ (omega arith) (λ h. sym c.is_plain.ensures ∙ c.if-is_plain.false))
