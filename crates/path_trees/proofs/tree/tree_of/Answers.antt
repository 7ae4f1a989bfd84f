use Rattle.path_trees.proofs.Trees.{tree_missed, tree_read}
use Rattle.path_trees.proofs.tree.tree_of.Goals as goal

pub returns-in-Ok-clause-gives : goal.returns-in-Ok-clause-gives
returns-in-Ok-clause-gives g c told =
    tree_read (g.S.Store.seen c.args.store.now).content c.args.id c.in-Ok.object c.entries_of.result (c.in-Ok.ensures.file told) c.entries_of.ensures.gives

pub returns-in-Err-clause-gives : goal.returns-in-Err-clause-gives
returns-in-Err-clause-gives g c told =
    rw c.fault_at.ensures (tree_missed (g.S.Store.seen c.args.store.now).content c.args.id c.in-Err.fault (c.in-Err.ensures.file told))
