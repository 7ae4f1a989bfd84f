-- Files that are removed from the index and the worktree (git-rm(1)).
use Rattle.std.specs.Prelude.{List, [], ◌∷◌, if◌then◌else◌, Option}
use Rattle.seq_base.specs.Words.{Id, Path, Text}
use Rattle.seq_outside.specs.Turns.{Turn, ◌>>=◌, gives, looked, looks, removed}
use Rattle.index_file.specs.declared.entry.IndexEntry.{IndexEntry}
use Rattle.stage_index.specs.Staged.{others_of}
use Rattle.stage_index.specs.Switching.{is_submodule_at}
use Rattle.seq_model.specs.Basis.{Basis}
use Rattle.seq_model.specs.declared.denial.Denial.{Denial}
use Rattle.seq_plumb.specs.Begun.{begun}
use Rattle.seq_plumb.specs.Indexing.{index_put}
use Rattle.seq_plumb.specs.Named.{are_tracked, paths_named}

-- the file at a path is removed; what stands at a submodule's path stays
unfoldable pub file_removed : List IndexEntry → Path → Turn Denial (Unit {0})
file_removed index path = if is_submodule_at index path then gives tt else removed path

-- the files of paths, one after another
unfoldable pub files_removed : List IndexEntry → List Path → Turn Denial (Unit {0})
files_removed index [] = gives tt
files_removed index (path ∷ paths) = do
  one ← file_removed index path
  files_removed index paths

-- the entries of other paths than these
abbrev pub others_of_all : List IndexEntry → List Path → List IndexEntry
others_of_all index [] = index
others_of_all index (path ∷ paths) = others_of_all (others_of index path) paths

-- the files of paths, and then the index without them
unfoldable pub removed_from : Basis → List Path → Turn Denial (Option Id)
removed_from basis paths = do
  files ← files_removed basis.index paths
  put ← index_put (others_of_all basis.index paths)
  gives basis.place.tip

-- paths that the index has
unfoldable pub removed_on : Basis → List Path → Turn Denial (Option Id)
removed_on basis paths = do
  tracked ← looked (are_tracked basis.index paths)
  removed_from basis paths

-- the files that the words name; answers the commit that HEAD is at
unfoldable pub removed_named : List Text → Turn Denial (Option Id)
removed_named words = do
  basis ← looks begun
  paths ← looked (paths_named words)
  removed_on basis paths
