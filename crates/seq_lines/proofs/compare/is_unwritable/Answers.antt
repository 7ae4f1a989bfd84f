use Rattle.std.proofs.Common.{◌≡◌, ◌||◌, List, ℕ, subst}
use Rattle.std.specs.List.{list_any}
use Rattle.reading.specs.Ending.{is_among_folders}
use Rattle.reading.specs.declared.end_ref.EndRef.{EndRef}
use Rattle.ref_store.specs.Changes.{is_barred}
use Rattle.seq_base.specs.World.{is_below}
use Rattle.seq_lines.proofs.Compared.{if_unbarred}
use Rattle.seq_lines.proofs.compare.is_unwritable.Goals as goal

pub returns-else-is_barred-clause-is : goal.returns-else-is_barred-clause-is
returns-else-is_barred-clause-is g c told =
    let w = (g.S.Store.seen c.args.store.now).content in
    if_unbarred c.in_ok-is_barred.is_barred (is_barred w c.args.r.now.name) c.is_among_folders.result (is_among_folders c.args.refs.now c.args.r.now)
    (subst (λ (name : List ℕ). c.in_ok-is_barred.is_barred ≡ is_barred w name) c.as_slice.ensures (c.in_ok-is_barred.ensures.found told))
    c.if-is_barred.false
    (subst (λ (name : List ℕ). c.is_among_folders.result ≡ list_any (λ (r : EndRef). is_below r.name name || is_below name r.name) c.args.refs.now)
    c.as_slice-else-is_barred.ensures c.is_among_folders.ensures)
