use Rattle.std.proofs.Common.{arith}
use Rattle.ref_text.proofs.LineLaws.{packed_names, packed_read}
use Rattle.ref_text.proofs.read_packed.parse_packed.Goals as goal

pub returns-clause-read : goal.returns-clause-read
returns-clause-read c = packed_read (λ v. v.items) c.args.text.now (λ k. omega (arith, c.type_inv.text k)) c.packed_in.result c.packed_in.ensures

pub returns-clause-names : goal.returns-clause-names
returns-clause-names c = packed_names (λ v. v.items) c.args.text.now c.packed_in.result c.packed_in.ensures
