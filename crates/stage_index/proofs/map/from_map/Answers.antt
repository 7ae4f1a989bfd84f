use Rattle.std.proofs.Common.{sym, ap, subst, ◌∙◌}
use Rattle.index_file.specs.Entries.{IsInOrder, IsIndex}
use Rattle.stage_index.specs.Stages.{map_of}
use Rattle.stage_index.proofs.Indexing.{indexed_in_order, indexed_is_index, map_of-indexed}
use Rattle.stage_index.proofs.map.from_map.Goals as goal

pub returns-clause-order : goal.returns-clause-order
returns-clause-order c = subst IsInOrder (sym c.in_ok-entries.ensures) (indexed_in_order c.args.map.now c.len-length.ensures.map)

pub returns-clause-map : goal.returns-clause-map
returns-clause-map c = ap map_of c.in_ok-entries.ensures ∙ map_of-indexed c.args.map.now

pub returns-clause-index : goal.returns-clause-index
returns-clause-index c few = subst IsIndex (sym c.in_ok-entries.ensures) (indexed_is_index c.args.map.now c.len-length.ensures.map few)
