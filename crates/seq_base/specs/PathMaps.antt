-- Maps from paths, as lists in the byte order of their paths (git-ls-tree(1), its full names).
use Rattle.std.specs.Prelude.{◌≡◌, ℕ, ◌+◌, ◌<◌, ◌≤◌, Bool, true, false, ◌&&◌, ◌||◌, ◌==◌, if◌then◌else◌, List, [], ◌∷◌, ◌++◌, length, take, drop, Option, Some, None}
use Rattle.std.specs.List.{AllByRecursion}
use Rattle.std.specs.Ordering.{nat_cmp, is_lt}
use Rattle.std.specs.Cmp.Lexicographic.{slice_cmp}
use Rattle.std.specs.Str.{bytes_eq}
use Rattle.seq_base.specs.Words.{Path}
use Rattle.seq_base.specs.World.{is_below}
use Rattle.seq_base.specs.declared.map.Entry.{Entry}
use Rattle.seq_base.specs.declared.mode.Mode.TheVariants.{Folder}
use Rattle.seq_base.specs.Modes.{mode_number}

-- paths with what stands at them
abbrev pub Entries : Type 0
Entries = List (Path × Entry)

-- two entries that are both there with one mode and one id, or both missing
abbrev pub same_entry : Option Entry → Option Entry → Bool
same_entry None None = true
same_entry None (Some b) = false
same_entry (Some a) None = false
same_entry (Some a) (Some b) = mode_number a.mode == mode_number b.mode && bytes_eq a.id b.id

-- a comes before b
abbrev pub is_less : Path → Path → Bool
is_less a b = is_lt (slice_cmp nat_cmp a b)

-- one lies below the other
abbrev pub clashes : Path → Path → Bool
clashes a b = is_below a b || is_below b a

-- each path comes before those that follow
abbrev pub IsAscending : Entries → Type 0
IsAscending [] = Unit {0}
IsAscending (e ∷ es) = AllByRecursion (λ d. is_less e.0 d.0 ≡ true) es × IsAscending es

-- no path is a folder of another
abbrev pub AreApart : Entries → Type 0
AreApart [] = Unit {0}
AreApart (e ∷ es) = AllByRecursion (λ d. clashes e.0 d.0 ≡ false) es × AreApart es

-- no entry is a folder
abbrev pub HoldsFiles : Entries → Type 0
HoldsFiles = AllByRecursion (λ e. e.1.mode ≡ Folder → ⊥)

pub record IsPathMap (es : Entries) : Type 0 where
  pub ascending : IsAscending es
  pub apart : AreApart es
  pub files : HoldsFiles es

-- what a map has at a path
abbrev pub entry_at : Entries → Path → Option Entry
entry_at [] path = None
entry_at (e ∷ es) path = if bytes_eq e.0 path then Some e.1 else entry_at es path

-- a map after a path was given an entry
abbrev pub put : Entries → Path → Entry → Entries
put [] path entry = (path, entry) ∷ []
put (e ∷ es) path entry = if bytes_eq e.0 path then (path, entry) ∷ es else if is_less path e.0 then (path, entry) ∷ e ∷ es else e ∷ put es path entry

-- the first path that clashes
abbrev pub first_clash : Entries → Path → Option Path
first_clash [] path = None
first_clash (e ∷ es) path = if clashes e.0 path then Some e.0 else first_clash es path

-- where a path stands (p.1 is true) or is to stand
abbrev pub IsPlace : Entries → Path → ℕ × Bool → Type 0
IsPlace es path p =
    (p.0 ≤ length es) × (p.1 ≡ true → p.0 < length es)
    × ((entry : Entry) → put es path entry ≡ take p.0 es ++ (path, entry) ∷ drop (if p.1 then p.0 + 1 else p.0) es)
