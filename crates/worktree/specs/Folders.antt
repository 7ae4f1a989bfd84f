-- Untracked files, and those in the place of a path's folders.
use Rattle.std.specs.Prelude.{ℕ, Bool, ◌&&◌, ◌==◌, List, slice_index, take}
use Rattle.std.specs.FinMap as map
use Rattle.std.specs.List.{list_any}
use Rattle.seq_base.specs.World.{World}
use Rattle.index_file.specs.declared.entry.IndexEntry.{IndexEntry}
use Rattle.stage_index.specs.Switching.{is_untracked}

-- a folder of the path ends at this slash, and a file that is not tracked stands in its place
abbrev pub is_file_before : World → List IndexEntry → List ℕ → ℕ → Bool
is_file_before w from path n = slice_index path n == 47 && (is_untracked from (take n path) && map.contains_key w (take n path))

-- an untracked file stands at such a path
abbrev pub has_untracked_at : World → List IndexEntry → (List ℕ → Bool) → Bool
has_untracked_at w from is_such = list_any (λ file. is_untracked from file && is_such file) (map.keys w)
