use Rattle.tree_merge.proofs.Sameness.{choice_swap}
use Rattle.tree_merge.proofs.laws.sides_can_be_exchanged.Goals as goal

pub returns : goal.returns
returns c = (choice_swap c.args.base c.args.ours c.args.theirs c.args.taken, choice_swap c.args.base c.args.theirs c.args.ours c.args.taken)
