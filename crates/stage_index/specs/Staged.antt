-- The stages of a path, set (gitformat-index(5), "Index entry"; git-update-index(1), "--index-info").
use Rattle.std.specs.Prelude.{◌≡◌, false, ◌||◌, ℕ, ◌+◌, not, if◌then◌else◌, List, [], ◌∷◌, ◌++◌, filter, Option, Some, None}
use Rattle.std.specs.List.{AllByRecursion}
use Rattle.std.specs.Str.{bytes_eq}
use Rattle.seq_base.specs.PathMaps.{is_less}
use Rattle.seq_base.specs.Words.{Path}
use Rattle.seq_base.specs.declared.map.Entry.{Entry}
use Rattle.index_file.specs.declared.entry.IndexEntry.{IndexEntry}
use Rattle.index_file.specs.Entries.{holds}

-- the entries of a path
abbrev pub stages_at : List IndexEntry → Path → List IndexEntry
stages_at es path = filter (λ e. bytes_eq e.path path) es

-- the entries of all other paths
abbrev pub others_of : List IndexEntry → Path → List IndexEntry
others_of es path = filter (λ e. not (bytes_eq e.path path)) es

-- what a path has at a stage, if it has something there
abbrev pub at_stage : Path → ℕ → Option Entry → List IndexEntry
at_stage path stage None = []
at_stage path stage (Some e) = record { path = path; stage = stage; mode = e.mode; id = e.id } ∷ []

-- what a path has at this stage, the next one, and so on
abbrev pub staged_from : Path → ℕ → List (Option Entry) → List IndexEntry
staged_from path stage [] = []
staged_from path stage (e ∷ es) = at_stage path stage e ++ staged_from path (stage + 1) es

-- what a path has at the stages from 0 on
abbrev pub staged_as : Path → List (Option Entry) → List IndexEntry
staged_as path stages = staged_from path 0 stages

-- the entries of a path among those of others: before the first whose path comes after
abbrev pub placed : List IndexEntry → Path → List IndexEntry → List IndexEntry
placed [] path new = new
placed (e ∷ es) path new = if is_less path e.path then new ++ e ∷ es else e ∷ placed es path new

-- the path has these stages, and no other
abbrev pub with_stages : List IndexEntry → Path → List (Option Entry) → List IndexEntry
with_stages es path stages = placed (others_of es path) path (staged_as path stages)

-- no entry of the first would be a folder of one of the second, or lie below it, where both are merged
abbrev pub NoneClashes : List IndexEntry → List IndexEntry → Type 0
NoneClashes es new = AllByRecursion (λ e. AllByRecursion (λ n. holds e n || holds n e ≡ false) new) es
