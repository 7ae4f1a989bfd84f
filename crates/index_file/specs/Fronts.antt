-- Which fronts of a path are paths of stage 0, so that one pass over sorted paths finds what lies below another.
use Rattle.std.specs.Prelude.{◌≡◌, ℕ, ◌+◌, ◌-◌, Bool, true, false, ◌&&◌, ◌==◌, if◌then◌else◌, List, [], ◌∷◌, length, map, filter, slice_get, Option, Some, None}
use Rattle.std.specs.List.{list_any, list_all, zip}
use Rattle.seq_base.specs.Words.{Path}
use Rattle.index_file.specs.declared.entry.IndexEntry.{IndexEntry}
use Rattle.index_file.specs.Entries.{IsInOrder, may_precede, comes_before}

-- the paths of stage 0
abbrev pub files_of : List IndexEntry → List Path
files_of es = map (λ e. e.path) (filter (λ e. e.stage == 0) es)

-- the files that begin with a byte, behind it
abbrev pub behind : ℕ → List Path → List Path
behind b [] = []
behind b ([] ∷ files) = behind b files
behind b ((c ∷ file) ∷ files) = if c == b then file ∷ behind b files else behind b files

abbrev pub is_empty : Path → Bool
is_empty [] = true
is_empty (b ∷ bs) = false

abbrev pub has_empty : List Path → Bool
has_empty files = list_any is_empty files

-- for each front of the path, from the empty one on, whether it is a file
abbrev pub fronts : List Path → Path → List Bool
fronts files [] = has_empty files ∷ []
fronts files (b ∷ path) = has_empty files ∷ fronts (behind b files) path

-- some front that is a file has a slash behind it
abbrev pub is_below_front : List Bool → Path → Bool
is_below_front files path = list_any (λ x. x.0 == 47 && x.1) (zip path files)

-- how many bytes both begin with
abbrev pub common : Path → Path → ℕ
common [] ys = 0
common (x ∷ xs) [] = 0
common (x ∷ xs) (y ∷ ys) = if x == y then common xs ys + 1 else 0

abbrev pub last_of : List IndexEntry → Option IndexEntry
last_of es = slice_get es (length es - 1)

-- an entry may stand right behind this one, as far as their order goes
abbrev pub allows : Option IndexEntry → IndexEntry → Bool
allows None e = true
allows (Some d) e = comes_before d e

abbrev pub path_of : Option IndexEntry → Path
path_of None = []
path_of (Some e) = e.path

-- what is known of the entries so far
pub record HoldsFronts (es : List IndexEntry) (marks : List Bool) : Type 0 where
  pub in_order : IsInOrder es
  pub fronts : marks ≡ fronts (files_of es) (path_of (last_of es))

-- every entry so far may precede e
abbrev pub may_follow : List IndexEntry → IndexEntry → Bool
may_follow es e = list_all (λ d. may_precede d e) es
