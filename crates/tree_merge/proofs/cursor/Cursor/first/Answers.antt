use Rattle.std.proofs.Common.{sym, ap, ◌∙◌}
use Rattle.tree_merge.specs.Walks.{head_path}
use Rattle.tree_merge.proofs.Cursors.{head_at}
use Rattle.tree_merge.proofs.cursor.Cursor.first.Goals as goal

pub returns-in-Some : goal.returns-in-Some
returns-in-Some c = ap head_path (sym (head_at c.self.inside.map.now c.self.inside.next _ c.in-Some.ensures)) ∙ ap head_path c.self.view_is
