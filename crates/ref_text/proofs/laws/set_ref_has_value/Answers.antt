use Rattle.std.proofs.Common.{arith}
use Rattle.ref_text.proofs.RefLaws.{set_others}
use Rattle.ref_text.proofs.laws.set_ref_has_value.Goals as goal

pub returns-clause-others : goal.returns-clause-others
returns-clause-others g c =
    set_others g.w c.args.name.now c.args.id.now c.args.line.now c.requires.0 ((λ k. omega (arith, c.type_inv.id k)), c.requires.1)
