use Rattle.std.proofs.Common.{◌≡◌, ◌≢◌, [], length}
use Rattle.std.specs.List.{AllByRecursion}
use Rattle.seq_base.specs.declared.mode.Mode.TheVariants.{Folder}
use Rattle.stage_index.specs.Mapping.{with_entries}
use Rattle.stage_index.proofs.mapping.to_map.Given as goal

abbrev pub invariant-loop-rest : goal.invariant-loop-rest
invariant-loop-rest l = record {
  so_far : with_entries l.map l.rest ≡ with_entries [] l.entries;
  files : AllByRecursion (λ e. e.mode ≢ Folder) l.rest;
}

abbrev pub decreases-loop-rest : goal.decreases-loop-rest
decreases-loop-rest l = length l.rest
