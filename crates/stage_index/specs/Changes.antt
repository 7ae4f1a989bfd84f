-- What differs between HEAD, the index and the files (git-status(1); git-diff-files(1); git-diff-index(1), "--cached").
use Rattle.std.specs.Prelude.{ℕ, Bool, true, false, not, ◌&&◌, List, ◌++◌, filter, map, Option, Some, None}
use Rattle.std.specs.FinMap as file
use Rattle.std.specs.Option.{option_to_list}
use Rattle.std.specs.Str.{bytes_eq}
use Rattle.seq_base.specs.declared.mode.Mode.{Mode}
use Rattle.seq_base.specs.declared.mode.Mode.TheVariants.{File, Exec, Link, Gitlink, Folder}
use Rattle.seq_base.specs.PathMaps.{entry_at, same_entry}
use Rattle.seq_base.specs.World.{World}
use Rattle.index_file.specs.declared.entry.IndexEntry.{IndexEntry}
use Rattle.object_text.specs.declared.object.Kind.TheVariants.{Blob}
use Rattle.object_text.specs.Store.{object_id}
use Rattle.stage_index.specs.Stages.{Entries, map_of}
use Rattle.stage_index.specs.Least.{least}

-- ---- the files against the index

-- the id that bytes have as a blob (git-hash-object(1))
abbrev pub blob_id : List ℕ → List ℕ
blob_id bytes = object_id (record { kind = Blob; bytes = bytes })

-- a file that is there with the bytes of a blob
abbrev pub has_blob : Option (List ℕ) → List ℕ → Bool
has_blob None id = false
has_blob (Some bytes) id = bytes_eq (blob_id bytes) id

-- a submodule's commit
abbrev pub is_gitlink : Mode → Bool
is_gitlink Gitlink = true
is_gitlink File = false
is_gitlink Exec = false
is_gitlink Link = false
is_gitlink Folder = false

-- the entry's file is missing or has other bytes; at a submodule's path no file is looked at
abbrev pub is_changed : World → IndexEntry → Bool
is_changed w e = not (is_gitlink e.mode) && not (has_blob (file.get w e.path) e.id)

-- the least path whose file is changed
unfoldable pub changed : World → List IndexEntry → Option (List ℕ)
changed w es = least (map (λ e. e.path) (filter (is_changed w) es))

-- ---- the index against HEAD

abbrev pub paths_of : Entries → List (List ℕ)
paths_of es = map (λ e. e.0) es

-- the least path at which two maps differ
unfoldable pub first_difference : Entries → Entries → Option (List ℕ)
first_difference a b = least (filter (λ path. not (same_entry (entry_at a path) (entry_at b path))) (paths_of a ++ paths_of b))

-- the least path at which the index's map and HEAD's differ
abbrev pub staged : List IndexEntry → Entries → Option (List ℕ)
staged es head = first_difference (map_of es) head

-- ---- all three

-- the least path that is changed or staged
abbrev pub dirty : World → List IndexEntry → Entries → Option (List ℕ)
dirty w es head = least (option_to_list (changed w es) ++ option_to_list (staged es head))
