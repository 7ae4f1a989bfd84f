-- Trees with one id.
use Rattle.std.specs.Prelude.{◌≡◌, ◌≢◌, List, Contains}
use Rattle.object_text.specs.declared.tree.TreeEntry.{TreeEntry}
use Rattle.object_text.specs.Objects.{object_text}
use Rattle.object_text.specs.TreeMaps.{tree_id, tree_object}

-- a tree of the first and one of the others have one id, though they have different texts
pub record HaveOneId (trees others : List (List TreeEntry)) : Type 0 where
  pub one : List TreeEntry
  pub other : List TreeEntry
  pub among : Contains trees one
  pub among_others : Contains others other
  pub differ : object_text (tree_object one) ≢ object_text (tree_object other)
  pub same : tree_id one ≡ tree_id other
