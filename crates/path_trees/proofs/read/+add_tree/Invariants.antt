use Rattle.std.proofs.Common.{◌≡◌, ◌-◌, ◌<◌, reverse, vec_len}
use Rattle.seq_outside.specs.Seen.{HasReadCause}
use Rattle.seq_outside.specs.Seen.Cause.{ByNone}
use Rattle.object_text.specs.TreeMaps.{map_below}
use Rattle.path_trees.proofs.Build.{HasBuilt}
use Rattle.path_trees.proofs.read.+add_tree.Given as goal

abbrev pub decreases-add_tree : goal.decreases-add_tree
decreases-add_tree g l = l.depth

abbrev pub invariant-rows : goal.invariant-rows
invariant-rows g l = record {
  same : g.S.Store.told → (g.S.Store.seen l.store).content ≡ (g.S.Store.seen l.fn.store).content;
  deep : 0 < l.depth;
  built : HasBuilt g.S.Store.told l.folder (map_below (l.depth - 1) (g.S.Store.seen l.fn.store).content) (map_below l.depth (g.S.Store.seen l.fn.store).content l.folder l.fn.id) l.fn.out.items l.out.items (reverse l.rows.items);
  cause : HasReadCause g.S.Store.told ByNone (g.S.Store.seen l.fn.store) (g.S.Store.seen l.store);
}

abbrev pub decreases-rows : goal.decreases-rows
decreases-rows g l = vec_len l.rows
