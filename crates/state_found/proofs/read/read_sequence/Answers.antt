use Rattle.std.proofs.Common.{subst}
use Rattle.seq_base.specs.World.{World}
use Rattle.state_text.specs.declared.verb.Verb.TheVariants.{CherryPick}
use Rattle.state_found.specs.Judged.{IsSequenceJudged, files_found}
use Rattle.state_found.proofs.StateLaws.{sequence_state}
use Rattle.state_found.proofs.read.read_sequence.Goals as goal

pub returns-clause-state : goal.returns-clause-state
returns-clause-state g c = λ told none there.
    let w = (g.S.Store.seen c.args.store.now).content in
    let judged = c.in_ok-sequence_at.field-0 in
    let is = subst (λ (v : World). IsSequenceJudged (files_found v CherryPick) judged) (c.in_ok-text.ensures.reads.0 told)
    (c.in_ok-sequence_at.ensures.judged told) in
    rw c.paused.ensures.found (sequence_state w judged is none there (rw c.in_default.is at (c.in_ok-text.ensures.text told)))
