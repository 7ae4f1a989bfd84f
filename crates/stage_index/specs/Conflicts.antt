-- Which files a conflict leaves, and what is written of them (git-merge(1), "HOW CONFLICTS ARE PRESENTED"; git-read-tree(1), "3-Way Merge").
use Rattle.std.specs.Prelude.{Bool, true, not, ◌&&◌, ◌||◌, if◌then◌else◌, List, [], ◌∷◌, codes, filter, find, map, is_none, option_map, Option}
use Rattle.std.specs.FinMap as file
use Rattle.std.specs.List.{list_any}
use Rattle.std.specs.Str.{bytes_eq}
use Rattle.seq_base.specs.PathMaps.{entry_at, is_less}
use Rattle.seq_base.specs.Words.{Path}
use Rattle.seq_base.specs.World.{World}
use Rattle.seq_base.specs.declared.map.Entry.{Entry}
use Rattle.seq_outside.specs.declared.write.Write.{Write}
use Rattle.seq_outside.specs.declared.write.Write.TheVariants.{Put, Remove}
use Rattle.index_file.specs.declared.entry.IndexEntry.{IndexEntry}
use Rattle.index_file.specs.Spelling.{index_text}
use Rattle.stage_index.specs.Stages.{map_of}
use Rattle.stage_index.specs.Switching.{is_in_way, is_rewritten, is_submodule_at, is_tracked, is_untracked}
use Rattle.stage_index.specs.declared.conflict.ConflictFile.{ConflictFile}
use Rattle.stage_index.specs.declared.conflict.ConflictFile.TheVariants.{Blob, Bytes}

-- paths with what is written to them
abbrev pub Files : Type 0
Files = List (Path × ConflictFile)

-- the blob of a path's entry
abbrev pub blob_row : Path × Entry → Path × ConflictFile
blob_row e = (e.0, Blob e.1)

-- a file among others in path order: before the first whose path comes after
abbrev pub among : Files → Path × ConflictFile → Files
among [] f = f ∷ []
among (g ∷ fs) f = if is_less f.0 g.0 then f ∷ g ∷ fs else g ∷ among fs f

-- and more of them
abbrev pub all_among : Files → Files → Files
all_among fs [] = fs
all_among fs (f ∷ more) = all_among (among fs f) more

-- the merged paths of an index with their blobs, and the files that a conflict leaves, in path order
abbrev pub conflict_files : List IndexEntry → Files → Files
conflict_files index files = all_among (map blob_row (map_of index)) files

-- the file is written: bytes are always, a blob where the old index lacks the path or has it otherwise, and it is no submodule
abbrev pub is_written_file : List IndexEntry → Path × ConflictFile → Bool
is_written_file from (path, Blob e) = is_rewritten from (path, e)
is_written_file from (path, Bytes bytes) = true

-- the old index lacks the path or it is written, and an untracked file is in its way
abbrev pub is_barred : World → List IndexEntry → Path × ConflictFile → Bool
is_barred w from f =
    (not (is_tracked from f.0) || is_written_file from f) && list_any (λ path. is_untracked from path && is_in_way f.0 path) (file.keys w)

abbrev pub path_of_file : Path × ConflictFile → Path
path_of_file f = f.0

-- the path of the first file, in path order, in whose way an untracked file is
unfoldable pub first_barred : World → List IndexEntry → Files → Option Path
first_barred w from fs = option_map path_of_file (find (is_barred w from) fs)

-- one of the files has the path
abbrev pub has_file : Files → Path → Bool
has_file fs path = list_any (λ f. bytes_eq f.0 path) fs

-- The path is neither merged nor left by the conflict. What stands at a submodule's path stays.
abbrev pub is_left_out : List IndexEntry → List IndexEntry → Files → IndexEntry → Bool
is_left_out from index files e = is_none (entry_at (map_of index) e.path) && (not (has_file files e.path) && not (is_submodule_at from e.path))

-- of these entries, the removals of such paths
abbrev pub left_out_of : List IndexEntry → List IndexEntry → Files → List IndexEntry → List Write
left_out_of from index files es = map (λ e. Remove e.path) (filter (is_left_out from index files) es)

-- such paths are removed
abbrev pub conflict_removals : List IndexEntry → List IndexEntry → Files → List Write
conflict_removals from index files = left_out_of from index files from

-- the index, with its stages
abbrev pub stages_write : List IndexEntry → Write
stages_write index = Put (codes ".git/index") (index_text index)
