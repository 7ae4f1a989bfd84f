use Rattle.std.proofs.Common.{◌-◌, length}
use Rattle.seq_outside.specs.Seen.{HasCause}
use Rattle.seq_outside.specs.Seen.Cause.{ByNone}
use Rattle.path_trees.proofs.Folders.{IsWay}
use Rattle.path_trees.proofs.write.+put_folder.Given as goal

abbrev pub decreases-put_folder : goal.decreases-put_folder
decreases-put_folder g l = 4096 - l.skip

abbrev pub invariant-loop-rest : goal.invariant-loop-rest
invariant-loop-rest g l = record {
  way : IsWay g.S.Store.told l.skip l.fn.rows l.rest l.entries.items (g.S.Store.seen l.fn.store).content (g.S.Store.seen l.store).content;
  cause : HasCause g.S.Store.told ByNone (g.S.Store.seen l.fn.store) (g.S.Store.seen l.store);
}

abbrev pub decreases-loop-rest : goal.decreases-loop-rest
decreases-loop-rest g l = length l.rest
