-- A reset to a map, in a world (git-reset(1), "--hard").
use Rattle.std.specs.Prelude.{List, [], ◌∷◌}
use Rattle.seq_base.specs.Words.{Path}
use Rattle.seq_base.specs.declared.map.Entry.{Entry}
use Rattle.seq_outside.specs.Turns.{◌>>=◌, Turn, gives, looks}
use Rattle.seq_outside.specs.declared.lack.Lack.{Lack}
use Rattle.index_file.specs.declared.entry.IndexEntry.{IndexEntry}
use Rattle.stage_index.specs.Stages.{Entries}
use Rattle.worktree.specs.Resets.{reset_first, row_writes, rows_readable}
use Rattle.worktree.specs.Switches.{writes_made}

-- a path is given its blob, if it is no submodule's
unfoldable pub row_reset : Path × Entry → Turn Lack (Unit {0})
row_reset e = do
  writes ← looks (λ w. row_writes w e)
  writes_made writes

-- one path after another
unfoldable pub rows_reset : Entries → Turn Lack (Unit {0})
rows_reset [] = gives tt
rows_reset (e ∷ es) = do
  _ ← row_reset e
  rows_reset es

-- the removals, the index, then the files
unfoldable pub reset_made : List IndexEntry → Entries → Turn Lack (Unit {0})
reset_made from to = do
  _ ← writes_made (reset_first from to)
  rows_reset to

-- index and files of the map, where those of an index stood; all blobs are read before anything changes
unfoldable pub reset_to : List IndexEntry → Entries → Turn Lack (Unit {0})
reset_to from to = do
  _ ← looks (λ w. rows_readable w to)
  reset_made from to
