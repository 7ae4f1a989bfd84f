use Rattle.pick_laws.proofs.Picking.{leaves}
use Rattle.pick_laws.proofs.laws.pick_leaves.Goals as goal

pub returns : goal.returns
returns g c = leaves c.args.env.now c.args.word.now g.pick c.args.id.now c.requires
