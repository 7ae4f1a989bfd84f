use Rattle.std.proofs.Common.{length, subst, sym, ap}
use Rattle.grammar.specs.declared.fault.ReadError.{ReadError}
use Rattle.grammar.specs.Gives.{Fails}
use Rattle.grammar.proofs.Top.{read_whole, first_bad, left_within}
use Rattle.object_text.specs.Commits.{IsCommit}
use Rattle.object_text.specs.ReadCommits.{commit_from}
use Rattle.object_text.proofs.CommitLaws.{commit_reads}
use Rattle.object_text.proofs.CommitValues.{value_of}
use Rattle.object_text.proofs.commit.parse_commit.Goals as goal

pub returns-then-count-gt16-clause-read : goal.returns-then-count-gt16-clause-read
returns-then-count-gt16-clause-read c = (
  c.in-Ok.commit,
  (read_whole IsCommit commit_from commit_reads c.args.bytes.now c.in-Ok.commit c.in-Ok.ensures).0,
  ap length (sym c.as_slice-count.ensures),
  c.if-count-gt16.true,
)

pub overflow_sub-result : goal.overflow_sub-result
overflow_sub-result c =
    left_within IsCommit commit_from commit_reads c.args.bytes.now c.in-Err-Stopped.left
    (subst (λ (d : ReadError). Fails d (commit_from c.args.bytes.now)) c.in-Err-Stopped.field-0-is c.in-Err-Stopped.ensures)

pub returns-else-count-gt16-clause-read : goal.returns-else-count-gt16-clause-read
returns-else-count-gt16-clause-read c = read_whole IsCommit commit_from commit_reads c.args.bytes.now c.in-Ok.commit c.in-Ok.ensures

pub returns-else-count-gt16-clause-value : goal.returns-else-count-gt16-clause-value
returns-else-count-gt16-clause-value c =
    value_of c.in-Ok.commit c.args.bytes.now (read_whole IsCommit commit_from commit_reads c.args.bytes.now c.in-Ok.commit c.in-Ok.ensures).0

pub returns-in-Err-Stopped-clause-read : goal.returns-in-Err-Stopped-clause-read
returns-in-Err-Stopped-clause-read c =
    first_bad IsCommit commit_from commit_reads c.args.bytes.now c.in-Err-Stopped.left
    (subst (λ (d : ReadError). Fails d (commit_from c.args.bytes.now)) c.in-Err-Stopped.field-0-is c.in-Err-Stopped.ensures)
