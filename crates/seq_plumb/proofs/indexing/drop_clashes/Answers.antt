use Rattle.std.proofs.Common.{rules, not}
use Rattle.std.proofs.lemmas.Fn.{filter_same}
use Rattle.seq_plumb.specs.Indexing.{clashes}
use Rattle.seq_plumb.proofs.indexing.drop_clashes.Goals as goal

pub returns : goal.returns
returns c = filter_same _ (λ e. not (clashes c.args.path.now e)) _ (λ x r f' k. search rules) _ _ c.retain.ensures.filtered
