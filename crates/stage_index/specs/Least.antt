-- The least of some paths, in byte order.
use Rattle.std.specs.Prelude.{ℕ, Bool, not, List, Option, find}
use Rattle.std.specs.List.{list_all}
use Rattle.seq_base.specs.PathMaps.{is_less}

-- none of the paths comes before this one
abbrev pub is_least : List (List ℕ) → List ℕ → Bool
is_least paths path = list_all (λ other. not (is_less other path)) paths

-- the path before which none of them comes
abbrev pub least : List (List ℕ) → Option (List ℕ)
least paths = find (is_least paths) paths
