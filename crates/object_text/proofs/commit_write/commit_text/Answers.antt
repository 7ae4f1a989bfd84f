use Rattle.object_text.proofs.CommitValues.{commit_written}
use Rattle.object_text.proofs.commit_write.commit_text.Goals as goal

pub returns-clause-commit : goal.returns-clause-commit
returns-clause-commit c =
    commit_written c.args.commit.now c.in_ok-text.text.items c.requires c.in_ok-text.ensures.tree c.in_ok-text.ensures.parents c.in_ok-text.ensures.text
