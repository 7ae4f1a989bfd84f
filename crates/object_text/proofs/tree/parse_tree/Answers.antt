use Rattle.std.proofs.Common.{subst}
use Rattle.grammar.specs.declared.fault.ReadError.{ReadError}
use Rattle.grammar.specs.Gives.{Fails}
use Rattle.grammar.proofs.Top.{read_whole, first_bad, left_within}
use Rattle.object_text.specs.Trees.{IsTree}
use Rattle.object_text.specs.ReadTrees.{tree_from}
use Rattle.object_text.proofs.Entries.{tree_reads}
use Rattle.object_text.proofs.tree.parse_tree.Goals as goal

pub overflow_sub-result : goal.overflow_sub-result
overflow_sub-result c =
    left_within IsTree tree_from tree_reads c.args.bytes.now c.in-Err-Stopped.left
    (subst (λ (d : ReadError). Fails d (tree_from c.args.bytes.now)) c.in-Err-Stopped.field-0-is c.in-Err-Stopped.ensures)

pub returns-in-Ok : goal.returns-in-Ok
returns-in-Ok c = read_whole IsTree tree_from tree_reads c.args.bytes.now c.in-Ok.entries.items c.in-Ok.ensures

pub returns-in-Err-Stopped : goal.returns-in-Err-Stopped
returns-in-Err-Stopped c =
    first_bad IsTree tree_from tree_reads c.args.bytes.now c.in-Err-Stopped.left
    (subst (λ (d : ReadError). Fails d (tree_from c.args.bytes.now)) c.in-Err-Stopped.field-0-is c.in-Err-Stopped.ensures)
