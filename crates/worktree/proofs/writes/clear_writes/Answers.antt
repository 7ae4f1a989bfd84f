use Rattle.std.proofs.Common.{◌≡◌, inl, refl, sym, ap, subst, ◌∙◌, List, ◌∷◌, ◌++◌, Ok}
use Rattle.std.specs.Prelude.{filter}
use Rattle.std.proofs.lemmas.Result.{err_from_is_err_and}
use Rattle.seq_outside.specs.declared.write.Write.{Write}
use Rattle.stage_index.specs.Stages.{Entries}
use Rattle.seq_outside.specs.Halts.{Denies}
use Rattle.stage_index.specs.Switching.{index_write, is_rewritten, removals}
use Rattle.worktree.specs.Own.{AreOwn, HasOwnPath}
use Rattle.worktree.specs.Writes.{blob_writes}
use Rattle.worktree.proofs.Owning.{own_more, own_store_paths}
use Rattle.worktree.proofs.SwitchLists.{all_writes, clear_denied, gathered, rows_in}
use Rattle.worktree.proofs.writes.clear_writes.Goals as goal
use Rattle.worktree.proofs.writes.clear_writes.Goals.{After-drop-index-2}

pub returns-in_err-push_blobs-clause-gives : goal.returns-in_err-push_blobs-clause-gives
returns-in_err-push_blobs-clause-gives g c told =
    let w = (g.S.Store.seen c.args.store.now).content in
    let from = c.args.from.now in
    let to = c.args.to.now in
    let e = c.in_err-push_blobs.field-0.0 in
    let p = err_from_is_err_and c.from_residual-in_err-push_blobs.result c.from_residual-in_err-push_blobs.ensures.1 in
    let rows = rows_in to c.in_ok-index.index.items c.deref-3.result.now c.in_ok-index.ensures.indexed (sym c.deref-3.ensures.value) in
    let denied = subst (λ (es : Entries). Denies e (blob_writes w (filter (is_rewritten from) es))) rows (c.in_err-push_blobs.ensures.appends told) in
    rw (p.1, p.2) (clear_denied w from to e denied)

module _ (g : _) (c : After-drop-index-2 g) (told : g.S.Store.told) where
  blobs : blob_writes (g.S.Store.seen c.args.store.now).content (filter (is_rewritten c.args.from.now) c.args.to.now) ≡ Ok (c.in_ok-push_blobs.ensures.appends told).0
  blobs =
      let w = (g.S.Store.seen c.args.store.now).content in
      let rows = rows_in c.args.to.now c.in_ok-index.index.items c.deref-3.result.now c.in_ok-index.ensures.indexed (sym c.deref-3.ensures.value) in
      let pushed = c.in_ok-push_blobs.ensures.appends told in
      ap (λ (es : Entries). blob_writes w (filter (is_rewritten c.args.from.now) es)) (sym rows) ∙ pushed.1

  all : removals c.args.from.now c.args.to.now ++ index_write c.args.to.now ∷ (c.in_ok-push_blobs.ensures.appends told).0 ≡ c.push_blobs.new.writes.items
  all =
      let pushed = c.in_ok-push_blobs.ensures.appends told in
      gathered c.args.from.now c.args.to.now c.in_ok-index.index.items c.deref.result.now c.deref-2.result.now c.new-writes.result.items c.push_removals.new.writes.items c.push.new.self.items c.push_blobs.new.writes.items pushed.0 c.in_ok-index_write.field-0
      c.in_ok-index.ensures.indexed c.in_ok-index.ensures.map (sym c.deref.ensures.value) (sym c.deref-2.ensures.value) c.new-writes.ensures.items c.in_ok-push_removals.ensures.pushed c.in_ok-index_write.ensures c.in_ok-push.ensures.items pushed.2

own : (g : _) (c : After-drop-index-2 g) → AreOwn c.push_blobs.new.writes.items
own g c =
    c.in_ok-push_blobs.ensures.own (own_more c.push_removals.new.writes.items c.push.new.self.items c.in_ok-index_write.field-0 c.in_ok-push.ensures.items
    (subst HasOwnPath (sym c.in_ok-index_write.ensures) (inl refl))
    (c.in_ok-push_removals.ensures.own (subst AreOwn (sym c.new-writes.ensures.items) tt)))

pub returns-clause-gives : goal.returns-clause-gives
returns-clause-gives g c told =
    all_writes (g.S.Store.seen c.args.store.now).content c.args.from.now c.args.to.now _ (blobs g c told) ∙ ap (λ (ws : List Write). Ok ws) (all g c told)

pub returns-clause-store_paths : goal.returns-clause-store_paths
returns-clause-store_paths g c = own_store_paths c.push_blobs.new.writes.items (own g c)
