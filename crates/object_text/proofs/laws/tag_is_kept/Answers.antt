use Rattle.object_text.proofs.KeptLaws.{kept_tag}
use Rattle.object_text.proofs.laws.tag_is_kept.Goals as goal

pub returns-clause-found : goal.returns-clause-found
returns-clause-found g c = λ kept. kept_tag g.w c.args.id.now c.args.named.now kept
