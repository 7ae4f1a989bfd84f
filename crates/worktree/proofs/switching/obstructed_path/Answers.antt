use Rattle.std.proofs.Common.{◌≡◌, sym, subst}
use Rattle.std.specs.Prelude.{IfOk}
use Rattle.stage_index.specs.Stages.{Entries}
use Rattle.stage_index.specs.Switching.{first_obstructed}
use Rattle.worktree.proofs.SwitchLists.{rows_in}
use Rattle.worktree.proofs.switching.obstructed_path.Goals as goal

pub returns-clause-found : goal.returns-clause-found
returns-clause-found g c told =
    let rows = rows_in c.args.to.now c.in_ok-index.index.items c.deref.result.now c.in_ok-index.ensures.indexed (sym c.deref.ensures.value) in
    subst (λ (es : Entries). IfOk c.first_obstructed.result (λ found. found ≡ first_obstructed (g.S.Store.seen c.args.store.now).content c.args.from.now es)) rows (c.first_obstructed.ensures.found told)
