use Rattle.object_text.proofs.KeptLaws.{kept_object}
use Rattle.object_text.proofs.laws.object_is_kept.Goals as goal

pub returns-clause-found : goal.returns-clause-found
returns-clause-found g c = λ kept. kept_object g.w c.args.id.now c.args.object.now kept
