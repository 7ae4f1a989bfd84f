use Rattle.std.proofs.Common.{◌≡◌, drop}
use Rattle.merge_base.specs.Marks.{mark_each}
use Rattle.merge_base.proofs.search.mark_each.Given as goal

abbrev pub invariant-loop-id : goal.invariant-loop-id
invariant-loop-id l = mark_each l.graph (drop l.id-index l.ids) l.marks ≡ mark_each l.graph l.ids l.initial.marks
