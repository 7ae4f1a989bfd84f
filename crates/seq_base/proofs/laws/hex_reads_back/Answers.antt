use Rattle.std.proofs.Common.{arith}
use Rattle.seq_base.proofs.HexCases.{spells_in_either_case, spells_lower, spells_upper}
use Rattle.seq_base.proofs.laws.hex_reads_back.Goals as goal

pub returns-clause-either_case : goal.returns-clause-either_case
returns-clause-either_case c =
    spells_in_either_case c.args.id.now c.args.text.now (λ k. omega (arith, c.type_inv.id k)) c.requires (λ k. omega (arith, c.type_inv.text k))

pub returns-clause-lower : goal.returns-clause-lower
returns-clause-lower c = spells_lower c.args.id.now (λ k. omega (arith, c.type_inv.id k)) c.requires

pub returns-clause-upper : goal.returns-clause-upper
returns-clause-upper c = spells_upper c.args.id.now (λ k. omega (arith, c.type_inv.id k)) c.requires
