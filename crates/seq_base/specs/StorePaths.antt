-- Which bytes are a store path: where a store may hold a file.
use Rattle.std.specs.Prelude.{◌≡◌, Bool, true, ◌&&◌, ◌||◌, ◌==◌, not, codes, IsTrue, length}
use Rattle.std.specs.Char.{is_ascii}
use Rattle.std.specs.FinMap as map
use Rattle.std.specs.List.{list_all}
use Rattle.std.specs.Str.{bytes_eq, is_utf8}
use Rattle.seq_base.specs.Words.{Name, Path, Text}
use Rattle.seq_base.specs.Paths.{parts}
use Rattle.seq_base.specs.World.{World}

-- not empty, not `.` and not `..`, without NUL
abbrev pub is_store_part : Name → Bool
is_store_part part =
    not (length part == 0) && not (bytes_eq (codes ".") part) && not (bytes_eq (codes "..") part)
    && list_all (λ b. not (b == 0)) part

-- UTF-8; ASCII is asked first, since at a literal that computes
abbrev pub is_text : Text → Bool
is_text bytes = list_all is_ascii bytes || is_utf8 bytes

-- text, whose parts between `/` are good
abbrev pub is_store_path : Path → Bool
is_store_path path = is_text path && list_all is_store_part (parts path)

abbrev pub IsStorePath : Path → Type 0
IsStorePath path = IsTrue (is_store_path path)

-- each file stands at a store path
abbrev pub HoldsStorePaths : World → Type 0
HoldsStorePaths w = (path : Path) → map.contains_key w path ≡ true → IsStorePath path
