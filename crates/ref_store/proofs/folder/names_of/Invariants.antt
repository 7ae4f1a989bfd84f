use Rattle.std.proofs.Common.{◌≡◌, ◌++◌, length}
use Rattle.std.specs.Prelude.{drop, filter, map}
use Rattle.ref_store.specs.Lists.{is_named}
use Rattle.ref_store.proofs.folder.names_of.Given as goal

abbrev pub invariant-loop-rest : goal.invariant-loop-rest
invariant-loop-rest l = l.names.items ++ filter is_named (map (drop 5) l.rest) ≡ filter is_named (map (drop 5) l.paths)

abbrev pub decreases-loop-rest : goal.decreases-loop-rest
decreases-loop-rest l = length l.rest
