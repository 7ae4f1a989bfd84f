use Rattle.std.proofs.Common.{subst, sym}
use Rattle.object_text.specs.Commits.{IsCommitValue}
use Rattle.seq_pick.specs.Preparing.{IsSomeIdent}
use Rattle.seq_pick.proofs.Idents.{commit_value, some_ident}
use Rattle.seq_pick.proofs.committing.commit_pick.Goals as goal

pub commit_with-requires-clause-value : goal.commit_with-requires-clause-value
commit_with-requires-clause-value g c =
    let who : IsSomeIdent c.deref.result.now = subst IsSomeIdent (sym c.deref.ensures.value) (some_ident _ _ c.in_ok-ident.ensures) in
    subst IsCommitValue (sym c.in_ok-commit.ensures) (commit_value _ _ _ _ c.requires.ready.commit who)
