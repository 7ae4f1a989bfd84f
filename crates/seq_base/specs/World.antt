-- A world: what a store holds, as a finite map from store path to bytes.
use Rattle.std.specs.Prelude.{◌≡◌, Bool, false, true, ◌||◌, ◌&&◌, ◌==◌, nat_eq, length, slice_index}
use Rattle.std.specs.declared.cmp.Ordering.{Ordering}
use Rattle.std.specs.FinMap as map
use Rattle.std.specs.List.{list_any, starts_with}
use Rattle.std.specs.Ordering.{nat_cmp}
use Rattle.std.specs.Cmp.Lexicographic.{slice_cmp}
use Rattle.seq_base.specs.Words.{Path, Text}

-- paths go in the order of their bytes
abbrev pub path_cmp : Path → Path → Ordering
path_cmp = slice_cmp nat_cmp

abbrev pub World : Type 0
World = map.FinMap path_cmp Text

-- the second path lies below the first, taken as a folder: it begins with it, and a slash follows
abbrev pub is_below : Path → Path → Bool
is_below folder path = starts_with nat_eq path folder && slice_index path (length folder) == 47

-- a file stands in a folder's place, or a folder with files in the file's place
abbrev pub is_blocked : World → Path → Bool
is_blocked w path = list_any (λ file. is_below path file || is_below file path) (map.keys w)

-- no file is also a folder
abbrev pub IsWorld : World → Type 0
IsWorld w = (folder file : Path) → map.contains_key w folder ≡ true → map.contains_key w file ≡ true → is_below folder file ≡ false
