-- The entries of the tree of an id.
use Rattle.std.proofs.Common.{◌≡◌, ℕ, List, Option, Some, None, Result, Ok, Err, refl, ap, ◌∙◌}
use Rattle.std.specs.Prelude.{option_and_then}
use Rattle.std.specs.Global.{Vec}
use Rattle.grammar.specs.Grammar.{IsFirstBad}
use Rattle.seq_base.specs.World.{World}
use Rattle.object_text.specs.declared.object.Object.{Object}
use Rattle.object_text.specs.declared.tree.TreeEntry.{TreeEntry}
use Rattle.object_text.specs.ReadTrees.{tree_from}
use Rattle.object_text.specs.Store.{entries_if_tree, entries_of, object_at, tree_at, value_read}
use Rattle.object_text.specs.Trees.{IsTree}
use Rattle.object_text.proofs.Entries.{tree_reads}
use Rattle.objects.specs.Reads.{IsGot}
use Rattle.objects.specs.declared.fault.ObjectFault.{ObjectFault}
use Rattle.objects.specs.declared.fault.ObjectFault.TheVariants as objects
use Rattle.objects.proofs.Reading.{got_object, not_large}
use Rattle.path_trees.specs.Faults.{fault_at}
use Rattle.path_trees.specs.Reads.{GivesEntries, GivesTree, IsBadOnly}
use Rattle.path_trees.specs.declared.fault.TreeFault.{TreeFault}
use Rattle.path_trees.specs.declared.fault.TreeFault.TheVariants.{BadObject, TooLarge, Depth, Blocked, Fault, Memory}

pub tree_spelled : (es : List TreeEntry) (content : List ℕ) → IsTree es content → entries_of content ≡ Some es
unfolding entries_of
tree_spelled es content is = ap value_read (tree_reads.again es content is)

pub no_tree_spelled : (content : List ℕ) (at : ℕ) → IsFirstBad IsTree content at → entries_of content ≡ None
unfolding entries_of
no_tree_spelled content at bad = by (tree_from content) refl
  where
    by : (read : Result (List TreeEntry) ℕ) → tree_from content ≡ read → value_read read ≡ None
    by (Ok es) is = absurd (bad.no_text es (tree_reads.takes content es is))
    by (Err left) is = refl

tree_is : (w : World) (id : List ℕ) (found : Option Object) → object_at w id ≡ found
    → tree_at w id ≡ option_and_then (λ o. entries_if_tree o.kind o.bytes) found
unfolding tree_at
tree_is w id found is = ap (option_and_then (λ (o : Object). entries_if_tree o.kind o.bytes)) is

-- what a tree gives whose object was not read
pub tree_missed : (w : World) (id : List ℕ) (fault : ObjectFault) → IsGot w id (Err fault) → GivesTree w id (Err (fault_at id fault)) (tree_at w id)
tree_missed w id objects.Missing is =
    (refl, tree_is w id None (got_object w id (Err objects.Missing) is), record { small = not_large w id (Err objects.Missing) is tt })
tree_missed w id (objects.TooLarge count) is = (tree_is w id None (got_object w id (Err (objects.TooLarge count)) is), is)
tree_missed w id (objects.WrongHash wanted found) is =
    (refl, tree_is w id None (got_object w id (Err (objects.WrongHash wanted found)) is), record { small = not_large w id (Err (objects.WrongHash wanted found)) is tt })
tree_missed w id (objects.BadText at) is =
    (refl, tree_is w id None (got_object w id (Err (objects.BadText at)) is), record { small = not_large w id (Err (objects.BadText at)) is tt })
tree_missed w id (objects.Collision wanted kept) is = absurd is
tree_missed w id (objects.Blocked path) is = absurd is
tree_missed w id objects.Fault is = tt
tree_missed w id objects.Memory is = tt

-- what a tree gives whose object was read
pub tree_read : (w : World) (id : List ℕ) (o : Object) (r : Result (Vec TreeEntry) TreeFault) → IsGot w id (Ok o)
    → GivesEntries id r (entries_if_tree o.kind o.bytes) → GivesTree w id r (tree_at w id)
tree_read w id o (Ok v) got is = tree_is w id (Some o) (got_object w id (Ok o) got) ∙ is
tree_read w id o (Err (BadObject bad)) got is =
    (is.0, tree_is w id (Some o) (got_object w id (Ok o) got) ∙ is.1, record { small = not_large w id (Ok o) got tt })
tree_read w id o (Err (TooLarge count)) got is = absurd is
tree_read w id o (Err Depth) got is = absurd is
tree_read w id o (Err (Blocked path)) got is = absurd is
tree_read w id o (Err Fault) got is = absurd is
tree_read w id o (Err Memory) got is = tt

-- the object of a tree is not too large
pub small_tree : (w : World) (id : List ℕ) (es : List TreeEntry) → tree_at w id ≡ Some es → IsBadOnly w id
small_tree w id es some = record { small = λ count large. let none = tree_is w id None (got_object w id (Err (objects.TooLarge count)) large) in cc }
