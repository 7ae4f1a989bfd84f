-- How changes are kept: a slot for each in the order in which they were made, empty where a later one of its path stands, and
-- the place of each path's slot.
use Rattle.std.specs.Prelude.{◌≡◌, Bool, true, false, map, ℕ, ◌+◌, if◌then◌else◌, List, [], ◌∷◌, slice_set, Option, Some, None, Result, Ok, Err}
use Rattle.std.specs.BTreeMap.{BTreeMap, get}
use Rattle.std.specs.BTreeSet.{BTreeSet, contains}
use Rattle.std.specs.List.{AllByRecursion, list_any}
use Rattle.seq_base.specs.Words.{Path}
use Rattle.seq_base.specs.World.{World, path_cmp}
use Rattle.seq_outside.specs.declared.store.StoreError.{StoreError}
use Rattle.seq_outside.specs.declared.write.Write.{Write}
use Rattle.seq_outside.specs.Drafts.{AreApart, puts_below}
use Rattle.seq_outside.specs.Writes.{HasStorePath, WriteLeaves, is_at, is_of_objects, written}

abbrev pub kept : List (Option Write) → List Write
kept [] = []
kept (None ∷ slots) = kept slots
kept (Some write ∷ slots) = write ∷ kept slots

-- the slots with that of the place empty
abbrev pub cleared : List (Option Write) → Option ℕ → List (Option Write)
cleared slots None = slots
cleared slots (Some place) = slice_set slots place None

-- the place of the path's slot, from n on
abbrev pub place_from : ℕ → List (Option Write) → Path → Option ℕ
place_from n [] path = None
place_from n (None ∷ slots) path = place_from (n + 1) slots path
place_from n (Some write ∷ slots) path = if is_at path write then Some n else place_from (n + 1) slots path

pub record AreChanges (slots : List (Option Write)) (places : BTreeMap Path ℕ) : Type 0 where
  pub apart : AreApart (kept slots)
  pub paths : AllByRecursion HasStorePath (kept slots)
  pub placed : (path : Path) → get path_cmp places path ≡ place_from 0 slots path

-- the write of a slot, if it is of objects, or if it is not
abbrev pub chosen : Bool → Option Write → Option Write
chosen of_objects None = None
chosen true (Some write) = if is_of_objects write then Some write else None
chosen false (Some write) = if is_of_objects write then None else Some write

abbrev pub all_chosen : Bool → List (Option Write) → List Write
all_chosen of_objects slots = kept (map (chosen of_objects) slots)

-- the writes of objects have been made, and no other
abbrev pub HaveObjects : World → List (Option Write) → World → Type 0
HaveObjects old slots now = now ≡ written old (all_chosen true slots)

-- what a slot's write leaves, and an empty one nothing
abbrev pub SlotLeaves : {T : Type 0} → Result T StoreError → World → Option Write → World → Type 0
SlotLeaves result old (Some write) new = WriteLeaves result old write new
SlotLeaves (Ok x) old None new = new ≡ old
SlotLeaves (Err e) old None new = ⊥

abbrev pub SlotHasPath : Option Write → Type 0
SlotHasPath (Some write) = HasStorePath write
SlotHasPath None = Unit {0}

-- each folder below which a write puts a file is among these
abbrev pub HoldsFolders : BTreeSet Path → List Write → Type 0
HoldsFolders folders writes = (folder : Path) → list_any (puts_below folder) writes ≡ true → contains path_cmp folders folder ≡ true

abbrev pub KeepsFolders : BTreeSet Path → BTreeSet Path → Type 0
KeepsFolders old new = (folder : Path) → contains path_cmp old folder ≡ true → contains path_cmp new folder ≡ true

pub record AreKept (slots : List (Option Write)) (places : BTreeMap Path ℕ) (folders : BTreeSet Path) : Type 0 where
  pub changes : AreChanges slots places
  pub holds : HoldsFolders folders (kept slots)
