use Rattle.std.proofs.Common.{◌++◌, rules}
use Rattle.std.proofs.lemmas.Fn.{filter_same}
use Rattle.std.specs.List.{list_any}
use Rattle.reading.specs.Resuming.{updates}
use Rattle.seq_resume.proofs.taking.drop_unnamed.Goals as goal

pub returns : goal.returns
returns c = filter_same _ (λ u. list_any (updates u.name) (c.args.done.now ++ c.args.left.now)) _ (λ x r f' k. search rules) _ _ c.retain.ensures.filtered
