-- What reading a tree answers (git-ls-tree(1), -r).
use Rattle.std.specs.Prelude.{◌≡◌, ℕ, List, Option, Some, None, Result, Ok, Err}
use Rattle.std.specs.Global.{Vec}
use Rattle.seq_base.specs.Words.{Id}
use Rattle.seq_base.specs.World.{World}
use Rattle.object_text.specs.declared.tree.TreeEntry.{TreeEntry}
use Rattle.object_text.specs.TreeMaps.{MapFault, BadTree, TooDeep}
use Rattle.objects.specs.Reads.{IsObjectTooLarge}
use Rattle.path_trees.specs.declared.fault.TreeFault.{TreeFault}
use Rattle.path_trees.specs.declared.fault.TreeFault.TheVariants.{BadObject, TooLarge, Depth, Blocked, Fault, Memory}

-- whether the object of an id is bad but not too large, or too large
pub record IsBadOnly (w : World) (id : Id) : Type 0 where
  pub small : (count : ℕ) → IsObjectTooLarge w id count → ⊥

-- The fault that is blamed, which TooLarge says where the object's content passes the limit; of a fault of the store and of
-- want of memory nothing is said.
abbrev pub Blames : {X : Type 0} → World → TreeFault → Result X MapFault → Type 0
Blames w (BadObject id) means = (means ≡ Err (BadTree id)) × IsBadOnly w id
Blames w (TooLarge count) means = (id : Id) × (means ≡ Err (BadTree id)) × IsObjectTooLarge w id count
Blames w Depth means = means ≡ Err TooDeep
Blames w (Blocked path) means = ⊥
Blames w Fault means = Unit {0}
Blames w Memory means = Unit {0}

-- What was answered is what the definition gives, seen by view.
abbrev pub Gives : {X Y : Type 0} → (X → Y) → World → Result X TreeFault → Result Y MapFault → Type 0
Gives view w (Ok x) means = means ≡ Ok (view x)
Gives view w (Err e) means = Blames w e means

-- the entries of the tree of an id, or that there is no such tree
abbrev pub GivesTree : World → Id → Result (Vec TreeEntry) TreeFault → Option (List TreeEntry) → Type 0
GivesTree w id (Ok v) found = found ≡ Some v.items
GivesTree w id (Err (BadObject bad)) found = (bad ≡ id) × (found ≡ None) × IsBadOnly w id
GivesTree w id (Err (TooLarge count)) found = (found ≡ None) × IsObjectTooLarge w id count
GivesTree w id (Err Depth) found = ⊥
GivesTree w id (Err (Blocked path)) found = ⊥
GivesTree w id (Err Fault) found = Unit {0}
GivesTree w id (Err Memory) found = Unit {0}

-- the same of a content: the entries that it spells, if it is a tree's
abbrev pub GivesEntries : Id → Result (Vec TreeEntry) TreeFault → Option (List TreeEntry) → Type 0
GivesEntries id (Ok v) found = found ≡ Some v.items
GivesEntries id (Err (BadObject bad)) found = (bad ≡ id) × (found ≡ None)
GivesEntries id (Err (TooLarge count)) found = ⊥
GivesEntries id (Err Depth) found = ⊥
GivesEntries id (Err (Blocked path)) found = ⊥
GivesEntries id (Err Fault) found = ⊥
GivesEntries id (Err Memory) found = Unit {0}
