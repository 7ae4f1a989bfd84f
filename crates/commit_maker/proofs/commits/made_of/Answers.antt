use Rattle.std.proofs.Common.{subst, sym}
use Rattle.commit_maker.proofs.Committing.{told_made}
use Rattle.commit_maker.specs.Commits.{IsMade}
use Rattle.commit_maker.proofs.commits.made_of.Goals as goal

pub returns-clause-told : goal.returns-clause-told
returns-clause-told c = subst IsMade (sym c.in_ok-made.ensures) (told_made c.args.id c.args.commit.now c.requires)
