use Rattle.tree_merge.proofs.Apart.{result_apart}
use Rattle.tree_merge.proofs.laws.results_without_clash_are_apart.Goals as goal

pub returns : goal.returns
returns c = result_apart
