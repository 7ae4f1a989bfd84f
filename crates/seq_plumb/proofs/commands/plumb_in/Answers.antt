use Rattle.std.proofs.Common.{ap, subst}
use Rattle.seq_base.specs.World.{World}
use Rattle.seq_model.proofs.Judged.{end_cause, fits_end, is_plain}
use Rattle.seq_model.specs.Judged.{Ends}
use Rattle.seq_outside.specs.Writes.{written}
use Rattle.seq_plumb.specs.Plumbed.{plumbed}
use Rattle.seq_plumb.proofs.commands.plumb_in.Goals as goal

pub returns-clause-fits : goal.returns-clause-fits
returns-clause-fits g c told =
    rw c.outcome_of.ensures.outcome (fits_end _ _ _ c.perform_in.result _
    (subst (λ (w : World). Ends c.perform_in.result (g.S.Store.seen c.args.draft.now.store.now).content (plumbed c.args.command.now w) (g.S.Store.seen c.perform_in.new.draft.store.now).content)
    (ap (written (g.S.Store.seen c.args.draft.now.store.now).content) c.requires) (c.perform_in.ensures.ends told)) c.outcome_of.ensures.own)

pub returns-clause-kind : goal.returns-clause-kind
returns-clause-kind g c = rw c.outcome_of.ensures.outcome (is_plain c.perform_in.result)

pub returns-clause-cause : goal.returns-clause-cause
returns-clause-cause g c = rw c.outcome_of.ensures.outcome (end_cause g.S.Store.told c.perform_in.result _ _ c.perform_in.ensures.cause)
