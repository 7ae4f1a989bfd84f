use Rattle.std.proofs.Common.{◌≡◌, take}
use Rattle.object_text.specs.Trees.{tree_text, HaveIds}
use Rattle.object_text.proofs.tree.tree_text.Given as goal

abbrev pub invariant-loop-entry : goal.invariant-loop-entry
invariant-loop-entry l = record { written : l.out.items ≡ tree_text (take l.entry-index l.entries); ids : HaveIds (take l.entry-index l.entries) }
