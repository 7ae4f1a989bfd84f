-- A conflict that is left, in a world (git-merge(1), "HOW CONFLICTS ARE PRESENTED").
use Rattle.seq_outside.specs.Turns.{◌>>=◌, Turn, looks}
use Rattle.seq_outside.specs.declared.lack.Lack.{Lack}
use Rattle.std.specs.Prelude.{List}
use Rattle.index_file.specs.declared.entry.IndexEntry.{IndexEntry}
use Rattle.stage_index.specs.Conflicts.{Files}
use Rattle.worktree.specs.Conflicts.{conflict_writes, unbarred}
use Rattle.worktree.specs.Switches.{writes_made}

-- an index with its stages, and files, where those of an index stood and no untracked file is in the way
unfoldable pub conflicted_clear : List IndexEntry → List IndexEntry → Files → Turn Lack (Unit {0})
conflicted_clear from index files = do
  writes ← looks (λ w. conflict_writes w from index files)
  writes_made writes

-- an index with its stages, and files, where those of an index stood
unfoldable pub conflicted : List IndexEntry → List IndexEntry → Files → Turn Lack (Unit {0})
conflicted from index files = do
  _ ← looks (λ w. unbarred w from index files)
  conflicted_clear from index files
