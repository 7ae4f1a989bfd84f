use Rattle.ref_store.proofs.Moving.{moved_as_head, moved_leaves}
use Rattle.ref_store.proofs.laws.head_is_moved.Goals as goal

pub returns-clause-leaves : goal.returns-clause-leaves
returns-clause-leaves g c = moved_leaves g.w c.args.head.now c.args.id c.args.line.now

pub returns-clause-goes : goal.returns-clause-goes
returns-clause-goes g c = moved_as_head g.w c.args.head.now c.args.id c.args.line.now
