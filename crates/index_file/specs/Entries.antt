-- The entries of an index and their order (gitformat-index(5), "Index entry": sorted by name, and then by stage).
use Rattle.std.specs.Prelude.{◌≡◌, ◌<◌, ◌^◌, Bool, true, not, ◌&&◌, ◌||◌, ◌==◌, nat_lt, List, [], ◌∷◌, length}
use Rattle.std.specs.List.{AllByRecursion}
use Rattle.std.specs.Str.{bytes_eq}
use Rattle.seq_base.specs.PathMaps.{is_less}
use Rattle.seq_base.specs.World.{is_below}
use Rattle.seq_base.specs.declared.mode.Mode.TheVariants.{Folder}
use Rattle.index_file.specs.declared.entry.IndexEntry.{IndexEntry}

-- d has the lesser path, or the same at a lesser stage, and then neither is merged
abbrev pub comes_before : IndexEntry → IndexEntry → Bool
comes_before d e = is_less d.path e.path || (bytes_eq d.path e.path && (nat_lt 0 d.stage && nat_lt d.stage e.stage))

-- both are merged, and e lies below d as if that were a folder
abbrev pub holds : IndexEntry → IndexEntry → Bool
holds d e = d.stage == 0 && (e.stage == 0 && is_below d.path e.path)

-- d may stand somewhere before e
abbrev pub may_precede : IndexEntry → IndexEntry → Bool
may_precede d e = comes_before d e && not (holds d e)

-- each entry may precede those that follow
abbrev pub IsInOrder : List IndexEntry → Type 0
IsInOrder [] = Unit {0}
IsInOrder (e ∷ es) = AllByRecursion (λ d. may_precede e d ≡ true) es × IsInOrder es

-- one of the four stages, and no folder
pub record IsStaged (e : IndexEntry) : Type 0 where
  pub stage : e.stage < 4
  pub mode : e.mode ≡ Folder → ⊥

-- what an index can hold
pub record IsIndex (es : List IndexEntry) : Type 0 where
  pub in_order : IsInOrder es
  pub staged : AllByRecursion IsStaged es
  pub few : length es < 2 ^ 32
