use Rattle.std.proofs.Common.{sym, subst, to_z, of_z, w64}
use Rattle.seq_step.specs.Settings.{MayCommit}
use Rattle.seq_start.proofs.Committers.{may_commit}
use Rattle.seq_start.proofs.opening.read_setting.Goals as goal

pub returns-clause-may : goal.returns-clause-may
returns-clause-may g c =
    let committed = rw c.as_slice.ensures at c.in_ok-committer.ensures.gives in
    let secs = to_z w64 (of_z w64 c.args.secs) in
    let setting = may_commit c.args.env.now secs c.in_ok-opened.opened.config c.in_ok-committer.committer c.requires committed in
    subst MayCommit (sym c.in_ok-setting_of.ensures) setting
