use Rattle.std.proofs.Common.{arith}
use Rattle.ref_text.proofs.LineLaws.{log_read}
use Rattle.ref_text.proofs.read_log.parse_log.Goals as goal

pub returns-clause-read : goal.returns-clause-read
returns-clause-read c = log_read (λ v. v.items) c.args.text.now (λ k. omega (arith, c.type_inv.text k)) c.log_in.result c.log_in.ensures
