-- A pick as it is merged, as definitions see it.
use Rattle.seq_model.specs.Pick.{Merging}
use Rattle.seq_pick.specs.declared.merging.Merging.{Merging as Merged}

abbrev pub merging_is : Merged → Merging
merging_is m = record { index = m.index.items; commit = m.commit; ours = m.ours; map = m.map }
