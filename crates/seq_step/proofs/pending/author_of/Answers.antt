use Rattle.std.proofs.Common.{sym}
use Rattle.seq_step.proofs.Authors.{no_author}
use Rattle.seq_step.proofs.pending.author_of.Goals as goal

pub returns-in-Err-Bad-clause-author : goal.returns-in-Err-Bad-clause-author
returns-in-Err-Bad-clause-author c = sym (no_author c.args.text.now _ (rw c.in-Err-Bad.field-0-is at c.in-Err-Bad.ensures))
