use Rattle.std.proofs.Common.{[], subst}
use Rattle.std.specs.Prelude.{unwrap_or}
use Rattle.std.specs.FinMap as files
use Rattle.seq_base.specs.World.{World}
use Rattle.state_text.specs.declared.state_file.StateFile.TheVariants as file
use Rattle.state_text.specs.declared.verb.Verb.TheVariants.{Rebase}
use Rattle.state_text.specs.Places.{state_path}
use Rattle.state_found.specs.Judged.{IsRebaseJudged, files_found}
use Rattle.state_found.proofs.StateLaws.{rebase_state}
use Rattle.state_found.proofs.read.read_rebase.Goals as goal

pub returns-clause-state : goal.returns-clause-state
returns-clause-state g c = λ told there.
    let w = (g.S.Store.seen c.args.store.now).content in
    let judged = c.in_ok-rebase_at.field-0 in
    let is = subst (λ (v : World). IsRebaseJudged (files_found v Rebase) (unwrap_or (files.get v (state_path Rebase file.RebaseTodo)) []) judged)
    (c.in_ok-step_text.ensures.reads.0 told) (c.in_ok-rebase_at.ensures.judged told) in
    rw c.paused.ensures.found (rebase_state w judged is there (rw c.in_default.is at (c.in_ok-step_text.ensures.text told)))
