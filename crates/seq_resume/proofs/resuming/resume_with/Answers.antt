use Rattle.std.proofs.Common.{subst, sym}
use Rattle.seq_step.specs.Settings.{MayCommit}
use Rattle.seq_resume.proofs.resuming.resume_with.Goals as goal

pub resume_at-requires-clause-setting : goal.resume_at-requires-clause-setting
resume_at-requires-clause-setting g c = subst MayCommit (sym c.in_ok-setting.ensures) (c.in_ok-committer.ensures.may _)
