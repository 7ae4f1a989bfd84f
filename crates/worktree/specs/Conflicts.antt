-- What a conflict leaves of index and files, as steps over a world (git-merge(1), "HOW CONFLICTS ARE PRESENTED").
use Rattle.std.specs.Prelude.{◌≡◌, ◌⊎◌, if◌then◌else◌, List, [], ◌∷◌, ◌++◌, Result, Ok}
use Rattle.seq_base.specs.Words.{Path}
use Rattle.seq_base.specs.World.{World}
use Rattle.seq_outside.specs.Halts.{◌>>=◌, stop_found}
use Rattle.seq_outside.specs.Writes.{IsFront}
use Rattle.seq_outside.specs.declared.lack.Lack.{Lack}
use Rattle.seq_outside.specs.declared.lack.Lack.TheVariants.{Way}
use Rattle.seq_outside.specs.declared.write.Write.{Write}
use Rattle.seq_outside.specs.declared.write.Write.TheVariants.{Put}
use Rattle.index_file.specs.declared.entry.IndexEntry.{IndexEntry}
use Rattle.stage_index.specs.Conflicts.{Files, conflict_files, conflict_removals, first_barred, is_written_file, stages_write}
use Rattle.stage_index.specs.declared.conflict.ConflictFile.{ConflictFile}
use Rattle.stage_index.specs.declared.conflict.ConflictFile.TheVariants.{Blob, Bytes}
use Rattle.worktree.specs.Blobs.{blob_named}

-- what is written to a path
unfoldable pub file_write : World → Path × ConflictFile → Result Write Lack
file_write w (path, Blob e) = do
  bytes ← blob_named w e.id
  Ok (Put path bytes)
file_write w (path, Bytes bytes) = Ok (Put path bytes)

unfoldable pub with_write : World → List Write → Path × ConflictFile → Result (List Write) Lack
with_write w writes f = do
  write ← file_write w f
  Ok (writes ++ write ∷ [])

-- writes, and behind them that of a file, if it is written
abbrev pub with_file : World → List IndexEntry → List Write → Path × ConflictFile → Result (List Write) Lack
with_file w from writes f = if is_written_file from f then with_write w writes f else Ok writes

-- and those of more files, in turn
unfoldable pub with_files : World → List IndexEntry → List Write → Files → Result (List Write) Lack
with_files w from writes [] = Ok writes
with_files w from writes (f ∷ fs) = do
  more ← with_file w from writes f
  with_files w from more fs

-- the removals, then the index
abbrev pub first_writes : List IndexEntry → List IndexEntry → Files → List Write
first_writes from index files = conflict_removals from index files ++ stages_write index ∷ []

-- what leaves the conflict where no file is in the way: the removals, then the index, then the files, in path order
abbrev pub conflict_writes : World → List IndexEntry → List IndexEntry → Files → Result (List Write) Lack
conflict_writes w from index files = with_files w from (first_writes from index files) (conflict_files index files)

-- no untracked file is in the way of a path
unfoldable pub unbarred : World → List IndexEntry → List IndexEntry → Files → Result (Unit {0}) Lack
unbarred w from index files = stop_found (first_barred w from (conflict_files index files)) Way

-- a front of what leaves the conflict was made
abbrev pub IsConflictFront : List IndexEntry → List IndexEntry → Files → World → World → Type 0
IsConflictFront from index files old new =
    (new ≡ old) ⊎ ((writes : List Write) × (conflict_writes old from index files ≡ Ok writes) × IsFront old writes new)
