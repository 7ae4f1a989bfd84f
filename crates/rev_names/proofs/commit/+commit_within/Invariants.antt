use Rattle.rev_names.proofs.commit.+commit_within.Given as goal

abbrev pub decreases-commit_within : goal.decreases-commit_within
decreases-commit_within g l = l.left
