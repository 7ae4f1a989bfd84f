use Rattle.std.proofs.Common.{refl, sym, ap, ◌∙◌}
use Rattle.object_text.specs.Store.{entries_of}
use Rattle.path_trees.proofs.Trees.{no_tree_spelled, tree_spelled}
use Rattle.path_trees.proofs.tree.entries_of.Goals as goal

pub returns-in-Ok-clause-gives : goal.returns-in-Ok-clause-gives
returns-in-Ok-clause-gives c =
    rw c.in-Tree.is (ap entries_of (sym c.as_slice.ensures) ∙ tree_spelled c.in-Ok.entries.items c.as_slice.result.now c.in-Ok.ensures.0)

pub returns-in-Err-Bad-clause-gives : goal.returns-in-Err-Bad-clause-gives
returns-in-Err-Bad-clause-gives c =
    let bad = rw c.in-Err-Bad.field-0-is at c.in-Err-Bad.ensures in
    (refl, rw c.in-Tree.is (ap entries_of (sym c.as_slice.ensures) ∙ no_tree_spelled c.as_slice.result.now c.in-Err-Bad.field-0-0 bad))
