-- The unmerged paths of an index (git-ls-files(1), "--unmerged").
use Rattle.std.specs.Prelude.{Bool, not, List, [], ◌∷◌, filter, map, Option}
use Rattle.std.specs.Str.{bytes_eq}
use Rattle.seq_base.specs.Words.{Path}
use Rattle.index_file.specs.declared.entry.IndexEntry.{IndexEntry}
use Rattle.stage_index.specs.Least.{least}
use Rattle.stage_index.specs.Stages.{is_merged}

abbrev pub is_unmerged : IndexEntry → Bool
is_unmerged e = not (is_merged e)

-- each path once, where it stands first
abbrev pub each_once : List Path → List Path
each_once [] = []
each_once (path ∷ paths) = path ∷ filter (λ other. not (bytes_eq other path)) (each_once paths)

-- the paths of the entries that are not merged
abbrev pub paths_unmerged : List IndexEntry → List Path
paths_unmerged es = map (λ e. e.path) (filter is_unmerged es)

-- each unmerged path, once
abbrev pub unmerged_paths : List IndexEntry → List Path
unmerged_paths es = each_once (paths_unmerged es)

-- the least unmerged path
abbrev pub first_unmerged : List IndexEntry → Option Path
first_unmerged es = least (paths_unmerged es)
