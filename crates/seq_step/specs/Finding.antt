-- What a pick finds, as definitions see it.
use Rattle.std.specs.Prelude.{◌<◌, ◌^◌, length}
use Rattle.index_file.specs.Entries.{IsInOrder}
use Rattle.object_text.specs.Commits.{IsCommitValue}
use Rattle.line_steps.specs.Finding.{Found as FoundValue, Picked as PickedValue}
use Rattle.line_steps.specs.Layers.{Sides as SidesValue}
use Rattle.line_steps.specs.Picks.{Picking as PickingValue}
use Rattle.seq_step.specs.declared.finding.Found.{Found}
use Rattle.seq_step.specs.declared.finding.Picked.{Picked}
use Rattle.seq_step.specs.declared.finding.Picking.{Picking}
use Rattle.seq_step.specs.declared.finding.Sides.{Sides}

abbrev pub picked_is : Picked → PickedValue
picked_is pick = record { id = pick.id; commit = pick.commit; parent = pick.parent }

abbrev pub found_is : Found → FoundValue
found_is found = record { index = found.index.items; parents = found.parents; tree = found.tree; ours = found.ours }

abbrev pub picking_is : Picking → PickingValue
picking_is at = record { head = at.head; found = found_is at.found; pick = picked_is at.pick }

-- of HEAD's map and the others
abbrev pub sides_is : Picking → Sides → SidesValue
sides_is at sides = record { base = sides.base; ours = at.found.ours; theirs = sides.theirs }

-- the index is in order, and an index can hold HEAD's map
pub record IsFound (found : Found) : Type 0 where
  pub order : IsInOrder found.index.items
  pub few : length found.ours < 2 ^ 32

abbrev pub IsPicked : Picked → Type 0
IsPicked pick = IsCommitValue pick.commit

pub record IsPicking (at : Picking) : Type 0 where
  pub found : IsFound at.found
  pub pick : IsPicked at.pick
