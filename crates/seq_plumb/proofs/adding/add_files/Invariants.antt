use Rattle.std.proofs.Common.{◌≡◌, length}
use Rattle.std.specs.List.{AllByRecursion}
use Rattle.index_file.specs.Entries.{IsInOrder, IsStaged}
use Rattle.seq_model.specs.Changes.{Changes}
use Rattle.seq_outside.specs.Seen.{HasCause}
use Rattle.seq_outside.specs.Seen.Cause.{ByNone}
use Rattle.seq_plumb.specs.Adding.{files_added}
use Rattle.seq_plumb.proofs.adding.add_files.Given as goal

-- the rest, from here, comes to what all come to from the start
abbrev pub invariant-loop-rest : goal.invariant-loop-rest
invariant-loop-rest g l = record {
  turns : g.S.Store.told
      → files_added l.entries.items l.rest (g.S.Store.seen l.store).content ≡ files_added l.fn.index.items l.paths (g.S.Store.seen l.fn.store).content;
  order : IsInOrder l.entries.items;
  staged : AllByRecursion IsStaged l.entries.items;
  owns : g.S.Store.told → Changes (g.S.Store.seen l.fn.store).content (g.S.Store.seen l.store).content;
  cause : HasCause g.S.Store.told ByNone (g.S.Store.seen l.fn.store) (g.S.Store.seen l.store);
}

abbrev pub decreases-loop-rest : goal.decreases-loop-rest
decreases-loop-rest g l = length l.rest
