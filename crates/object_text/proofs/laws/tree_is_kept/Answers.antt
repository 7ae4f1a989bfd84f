use Rattle.object_text.proofs.KeptLaws.{kept_tree}
use Rattle.object_text.proofs.laws.tree_is_kept.Goals as goal

pub returns-clause-found : goal.returns-clause-found
returns-clause-found g c = λ kept. kept_tree g.w c.args.id.now c.args.entries.now kept
