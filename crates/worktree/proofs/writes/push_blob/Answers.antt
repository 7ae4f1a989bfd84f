use Rattle.std.proofs.Common.{◌∙◌, sym, ap, ◌++◌, [], ◌∷◌, List, ℕ}
use Rattle.seq_outside.specs.declared.write.Write.TheVariants.{Put}
use Rattle.std.proofs.lemmas.Result.{err_from_is_err_and}
use Rattle.worktree.proofs.ReadBlobs.{one_kept, one_denied, one_written}
use Rattle.worktree.proofs.writes.push_blob.Goals as goal

pub returns-then-not-is_rewritten-clause-appends : goal.returns-then-not-is_rewritten-clause-appends
returns-then-not-is_rewritten-clause-appends g c told =
    one_kept _ c.args.from.now c.args.entry.now c.args.writes.now.items (sym c.is_rewritten.ensures ∙ c.if-not-is_rewritten.true)

pub returns-in_err-bytes-clause-appends : goal.returns-in_err-bytes-clause-appends
returns-in_err-bytes-clause-appends g c told =
    let p = err_from_is_err_and c.from_residual.result c.from_residual.ensures.1 in
    rw (p.1, p.2) (one_denied _ c.args.from.now c.args.entry.now c.in_err-bytes.field-0.0 (sym c.is_rewritten.ensures ∙ c.if-not-is_rewritten.false) (c.in_err-bytes.ensures.gives told))

pub returns-clause-appends : goal.returns-clause-appends
returns-clause-appends g c told =
    one_written _ c.args.from.now c.args.entry.now c.in_ok-bytes.bytes c.args.writes.now.items c.push.new.self.items (sym c.is_rewritten.ensures ∙ c.if-not-is_rewritten.false) (c.in_ok-bytes.ensures.gives told)
    (c.in_ok-push.ensures.items ∙ ap (λ (p : List ℕ). c.args.writes.now.items ++ Put p c.in_ok-bytes.bytes ∷ []) c.in_ok-path.ensures.same)
