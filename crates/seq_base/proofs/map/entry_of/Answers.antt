use Rattle.std.proofs.Common.{ℕ, List, Some, sym, ap, ◌∙◌}
use Rattle.std.proofs.lemmas.Fn.{always_returns_same}
use Rattle.seq_base.specs.declared.map.Entry.{Entry}
use Rattle.seq_base.proofs.Halving.{found_at, missing_at, order_by, rises}
use Rattle.seq_base.proofs.map.entry_of.Goals as goal

pub returns-in-Ok : goal.returns-in-Ok
returns-in-Ok c =
    ap (λ (e : List ℕ × Entry). Some e.1) (sym c.index-entries-n.is)
    ∙ found_at c.args.entries.now c.args.path.now c.in-Ok.n c.index-entries-n.result c.requires c.in-Ok.ensures.bound c.index-entries-n.is
    (c.in-Ok.ensures.position (order_by c.args.path.now) (always_returns_same _ _ _ (λ a r f k. k.met)))

pub returns-in-Err : goal.returns-in-Err
returns-in-Err c =
    missing_at c.args.entries.now c.args.path.now c.in-Err.field-0
    (c.in-Err.ensures.position (order_by c.args.path.now) (always_returns_same _ _ _ (λ a r f k. k.met)) (rises c.args.entries.now c.args.path.now c.requires))
