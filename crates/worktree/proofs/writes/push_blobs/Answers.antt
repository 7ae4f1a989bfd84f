use Rattle.std.proofs.Common.{rules, arith, ◌<◌, length, subst, ◌∙◌, [], ◌∷◌}
use Rattle.std.proofs.lemmas.Result.{err_from_is_err_and}
use Rattle.seq_base.specs.World.{World}
use Rattle.seq_outside.specs.Halts.{Denies}
use Rattle.worktree.specs.Writes.{blob_writes}
use Rattle.worktree.proofs.SwitchLists.{Pushed, blobs_end, blobs_denied, blobs_more, chosen}
use Rattle.worktree.proofs.writes.push_blobs.Goals as goal

pub returns-in_err-push_blob-clause-appends : goal.returns-in_err-push_blob-clause-appends
returns-in_err-push_blob-clause-appends g c told =
    let some : 0 < length c.loop-rest.rest.now = omega arith in
    let w = (g.S.Store.seen c.args.store.now).content in
    let e = c.in_err-push_blob.field-0.0 in
    let p = err_from_is_err_and c.from_residual.result c.from_residual.ensures.1 in
    let denied = subst (λ (v : World). Denies e (blob_writes v (chosen c.args.from.now (c.entry-item.result ∷ [])))) (c.loop-rest.invariant.same told) (c.in_err-push_blob.ensures.appends told) in
    rw (p.1, p.2) (blobs_denied w c.args.from.now c.args.to.now c.loop-rest.rest.now c.args.writes.now.items c.loop-rest.writes.items c.entry-item.result e (c.loop-rest.invariant.made told) some c.entry-item.is denied)

pub loop-rest-preserved : goal.loop-rest-preserved
loop-rest-preserved g c =
    let some : 0 < length c.loop-rest.rest.now = omega arith in
    let w = (g.S.Store.seen c.args.store.now).content in
    record {
      made = λ told.
          let pushed = subst (λ (v : World). Pushed v c.args.from.now c.entry-item.result c.loop-rest.writes.items c.push_blob.new.writes.items) (c.loop-rest.invariant.same told) (c.in_ok-push_blob.ensures.appends told) in
          blobs_more w c.args.from.now c.args.to.now c.loop-rest.rest.now c.args.writes.now.items c.loop-rest.writes.items c.push_blob.new.writes.items c.entry-item.result (c.loop-rest.invariant.made told) some c.entry-item.is pushed;
      own = λ h. c.in_ok-push_blob.ensures.own (c.loop-rest.invariant.own h);
      same = λ told. c.in_ok-push_blob.ensures.reads.0 told ∙ c.loop-rest.invariant.same told;
      cause = search rules;
    }

pub returns-clause-appends : goal.returns-clause-appends
returns-clause-appends g c told =
    blobs_end _ c.args.from.now c.args.to.now c.loop-rest.rest.now c.args.writes.now.items c.loop-rest.writes.items (c.loop-rest.invariant.made told) (omega arith)
