-- Which paths a switch of index and files to another map meets and writes (git-read-tree(1), "Two Tree Merge"; git-switch(1)).
use Rattle.std.specs.Prelude.{ℕ, Bool, not, ◌&&◌, ◌||◌, List, codes, filter, map, is_none, Option, Some}
use Rattle.std.specs.FinMap as file
use Rattle.std.specs.List.{list_any}
use Rattle.std.specs.Str.{bytes_eq}
use Rattle.seq_base.specs.declared.map.Entry.{Entry}
use Rattle.seq_base.specs.PathMaps.{entry_at, same_entry}
use Rattle.seq_base.specs.World.{World, is_below}
use Rattle.seq_outside.specs.declared.write.Write.{Write}
use Rattle.seq_outside.specs.declared.write.Write.TheVariants.{Put, Remove}
use Rattle.index_file.specs.declared.entry.IndexEntry.{IndexEntry}
use Rattle.index_file.specs.Index.{indexed}
use Rattle.index_file.specs.Spelling.{index_text}
use Rattle.stage_index.specs.Stages.{Entries, map_of}
use Rattle.stage_index.specs.Least.{least}
use Rattle.stage_index.specs.Changes.{is_gitlink}

-- ---- which paths

-- the index has the path, at whatever stage
abbrev pub is_tracked : List IndexEntry → List ℕ → Bool
is_tracked from path = list_any (λ e. bytes_eq e.path path) from

-- the index has a submodule there, at whatever stage
abbrev pub is_submodule_at : List IndexEntry → List ℕ → Bool
is_submodule_at from path = list_any (λ e. bytes_eq e.path path && is_gitlink e.mode) from

-- the index has the path, and no submodule there
abbrev pub tracks_file : List IndexEntry → List ℕ → Bool
tracks_file from path = is_tracked from path && not (is_submodule_at from path)

-- a file that would stand outside `.git`, and that the index does not track
abbrev pub is_untracked : List IndexEntry → List ℕ → Bool
is_untracked from path = not (is_below (codes ".git") path) && not (tracks_file from path)

-- a file stands at the path, in the place of one of its folders, or below it
abbrev pub is_in_way : List ℕ → List ℕ → Bool
is_in_way path file = bytes_eq file path || (is_below file path || is_below path file)

-- the index has the same at the path
abbrev pub is_kept : List IndexEntry → List ℕ × Entry → Bool
is_kept from e = same_entry (entry_at (map_of from) e.0) (Some e.1)

-- the path's blob is written: the index lacks the path or has it otherwise, and it is no submodule
abbrev pub is_rewritten : List IndexEntry → List ℕ × Entry → Bool
is_rewritten from e = not (is_kept from e) && not (is_gitlink e.1.mode)

-- the index lacks the path or it is written, and an untracked file is in its way
abbrev pub is_obstructed : World → List IndexEntry → List ℕ × Entry → Bool
is_obstructed w from e =
    (not (is_tracked from e.0) || is_rewritten from e)
    && list_any (λ path. is_untracked from path && is_in_way e.0 path) (file.keys w)

-- the least path in whose way an untracked file is
unfoldable pub first_obstructed : World → List IndexEntry → Entries → Option (List ℕ)
first_obstructed w from to = least (map (λ e. e.0) (filter (is_obstructed w from) to))

-- ---- what is written

-- The path is tracked no longer. What stands at a submodule's path stays.
abbrev pub is_dropped : List IndexEntry → Entries → IndexEntry → Bool
is_dropped from to e = is_none (entry_at to e.path) && not (is_submodule_at from e.path)

-- of these entries, the removals of the paths that are tracked no longer
abbrev pub removals_of : List IndexEntry → Entries → List IndexEntry → List Write
removals_of from to es = map (λ e. Remove e.path) (filter (is_dropped from to) es)

-- the paths that are tracked no longer are removed
abbrev pub removals : List IndexEntry → Entries → List Write
removals from to = removals_of from to from

abbrev pub index_write : Entries → Write
index_write to = Put (codes ".git/index") (index_text (indexed to))
