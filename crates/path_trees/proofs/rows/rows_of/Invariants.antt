use Rattle.std.proofs.Common.{vec_len}
use Rattle.path_trees.proofs.Paths.{HasTaken}
use Rattle.path_trees.proofs.rows.rows_of.Given as goal

abbrev pub invariant-rows : goal.invariant-rows
invariant-rows l = HasTaken l.folder l.fn.entries.items l.entries.items l.rows.items

abbrev pub decreases-rows : goal.decreases-rows
decreases-rows l = vec_len l.entries
