use Rattle.std.proofs.lemmas.Int.{to_z-of_z}
use Rattle.std.proofs.Common.{inl, inr, ap, refl, w64}
use Rattle.seq_model.proofs.Judged.{is_plain, judged_cause, stays_by}
use Rattle.seq_outside.specs.Halts.{halt_cause}
use Rattle.seq_outside.specs.Writes.{written}
use Rattle.seq_pick.specs.Preparing.{prepared_is}
use Rattle.seq_top.proofs.Judged.{at_moment, at_none, at_secs, denied_there, is_denied, prepared_there}
use Rattle.seq_top.proofs.judging.pick_in.Goals as goal

pub returns-in-Ok-clause-judged : goal.returns-in-Ok-clause-judged
returns-in-Ok-clause-judged g c =
    rw c.outcome_of.ensures.outcome (inl (at_moment g.S.Store.told g.C.Clock.ticked c.args.env.now c.args.word.now (g.S.Store.seen c.args.draft.now.store.now).content _ _ _ c.now-secs.result (prepared_is c.in-Ok.pick) (g.S.Store.seen c.prepare.new.store.store.now).content (written (g.S.Store.seen c.prepare.new.store.store.now).content c.prepare.new.store.changes.now) c.finish_in.result _ c.now-secs.ensures
    (λ told. prepared_there c.args.env.now.vars c.as_slice.result.now c.args.word.now _ _ c.as_slice.ensures (ap (written _) c.requires.none) _ (c.in-Ok.ensures.turns told))
    (λ told. c.in-Ok.ensures.writes.1.3 told) (λ told. at_secs _ _ _ _ _ _ _ (to_z-of_z w64 c.now-secs.result (record { sfits = c.now-secs.type_inv })) (c.finish_in.ensures.ends told)) c.outcome_of.ensures.own))

pub returns-in-Ok-clause-kind : goal.returns-in-Ok-clause-kind
returns-in-Ok-clause-kind g c = rw c.outcome_of.ensures.outcome (is_plain c.finish_in.result)

pub returns-in-Ok-clause-cause : goal.returns-in-Ok-clause-cause
returns-in-Ok-clause-cause g c =
    rw c.outcome_of.ensures.outcome (judged_cause g.S.Store.told c.finish_in.result (g.S.Store.seen c.args.draft.now.store.now) (g.S.Store.seen c.prepare.new.store.store.now) _ c.in-Ok.ensures.writes.0 c.in-Ok.ensures.writes.1.2 c.finish_in.ensures.cause)

pub returns-in-Err-clause-judged : goal.returns-in-Err-clause-judged
returns-in-Err-clause-judged g c =
    rw c.outcome_of-in-Err.ensures.outcome (inr (at_none g.S.Store.told g.C.Clock.ticked c.args.env.now c.args.word.now (g.S.Store.seen c.args.draft.now.store.now).content _ _ _ c.in-Err.halt (written (g.S.Store.seen c.prepare.new.store.store.now).content c.prepare.new.store.changes.now) _ refl
    (λ told. denied_there c.args.env.now.vars c.as_slice.result.now c.args.word.now _ _ c.as_slice.ensures (ap (written _) c.requires.none) c.in-Err.halt _ (is_denied prepared_is c.in-Err.halt _ _ (c.in-Err.ensures.turns told)))
    (λ told. (stays_by g.S.Store.told (halt_cause c.in-Err.halt) _ _ c.in-Err.ensures.writes).3 told)))
