use Rattle.std.proofs.Common.{Some}
use Rattle.ref_store.proofs.Updating.{update_fails, update_moved}
use Rattle.ref_store.proofs.laws.update_is_exact.Goals as goal

pub returns-clause-fails : goal.returns-clause-fails
returns-clause-fails g c why is = update_fails g.w c.args.name.now c.args.expected.now c.args.id.now (Some c.args.line.now) why is

pub returns-clause-moved : goal.returns-clause-moved
returns-clause-moved g c found is ne = update_moved g.w c.args.name.now c.args.expected.now c.args.id.now (Some c.args.line.now) found is ne
