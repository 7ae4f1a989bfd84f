-- A map as an index, each entry merged.
use Rattle.std.proofs.Common.{◌≡◌, ℕ, zero, suc, ◌+◌, ◌<◌, ◌≤◌, ◌^◌, Bool, true, false, not, ◌||◌, List, [], ◌∷◌, ◌++◌, length, take, Some, refl, ap, ◌∙◌, arith}
use Rattle.std.specs.Prelude.{map, slice_get}
use Rattle.std.specs.List.{AllByRecursion}
use Rattle.std.proofs.lemmas.Bool.{and_from, not_from_false, or_left}
use Rattle.std.proofs.lemmas.List.{map-append}
use Rattle.seq_base.specs.declared.map.Entry.{Entry}
use Rattle.seq_base.specs.PathMaps.{AreApart, HoldsFiles, IsAscending, IsPathMap, clashes, is_less}
use Rattle.seq_base.specs.World.{is_below}
use Rattle.index_file.specs.declared.entry.IndexEntry.{IndexEntry}
use Rattle.index_file.specs.Entries.{IsInOrder, IsIndex, IsStaged, comes_before, holds, may_precede}
use Rattle.index_file.specs.Index.{indexed}
use Rattle.stage_index.specs.Stages.{Entries, map_of, row_of}

abbrev entry_of : List ℕ × Entry → IndexEntry
entry_of e = record { path = e.0; stage = 0; mode = e.1.mode; id = e.1.id }

rows_precede : (e : List ℕ × Entry) (es : Entries) → AllByRecursion (λ d. is_less e.0 d.0 ≡ true) es
    → AllByRecursion (λ d. clashes e.0 d.0 ≡ false) es → AllByRecursion (λ d. may_precede (entry_of e) d ≡ true) (indexed es)
rows_precede e [] less apart = tt
rows_precede e (d ∷ es) less apart =
    (and_from (comes_before (entry_of e) (entry_of d)) (not (holds (entry_of e) (entry_of d))) (or_left (is_less e.0 d.0) _ less.0) (not_from_false (is_below e.0 d.0) (neither (is_below e.0 d.0) (is_below d.0 e.0) apart.0)), rows_precede e es less.1 apart.1)
  where
    neither : (a b : Bool) → a || b ≡ false → a ≡ false
    neither true b h = absurd cc
    neither false b h = refl

in_order : (es : Entries) → IsAscending es → AreApart es → IsInOrder (indexed es)
in_order [] up apart = tt
in_order (e ∷ es) up apart = (rows_precede e es up.0 apart.0, in_order es up.1 apart.1)

pub indexed_in_order : (es : Entries) → IsPathMap es → IsInOrder (indexed es)
indexed_in_order es map = in_order es map.ascending map.apart

staged : (es : Entries) → HoldsFiles es → AllByRecursion IsStaged (indexed es)
staged [] files = tt
staged (e ∷ es) files = (record { stage = omega arith; mode = files.0 }, staged es files.1)

same_length : (es : Entries) → length (indexed es) ≡ length es
same_length [] = refl
same_length (e ∷ es) = ap suc (same_length es)

pub indexed_is_index : (es : Entries) → IsPathMap es → length es < 2 ^ 32 → IsIndex (indexed es)
indexed_is_index es map few = record { in_order = indexed_in_order es map; staged = staged es map.files; few = let k = same_length es in omega arith }

pub map_of-indexed : (es : Entries) → map_of (indexed es) ≡ es
map_of-indexed [] = refl
map_of-indexed (e ∷ es) = ap (λ (m : Entries). e ∷ m) (map_of-indexed es)

pub rows_of-indexed : (es : Entries) → map row_of (indexed es) ≡ es
rows_of-indexed [] = refl
rows_of-indexed (e ∷ es) = ap (λ (m : Entries). e ∷ m) (rows_of-indexed es)

-- ---- by pushes

take_one : (es : Entries) (n : ℕ) (e : List ℕ × Entry) → slice_get es n ≡ Some e → take (n + 1) es ≡ take n es ++ e ∷ []
take_one [] n e h = absurd cc
take_one (d ∷ es) zero e h = let k : d ≡ e = cc in ap (λ (x : List ℕ × Entry). x ∷ []) k
take_one (d ∷ es) (suc n) e h = let k : suc n + 1 ≡ suc (n + 1) = omega arith in rw k (ap (λ (m : Entries). d ∷ m) (take_one es n e h))

pub indexed_more : (es : Entries) (n : ℕ) (e : List ℕ × Entry) → slice_get es n ≡ Some e
    → indexed (take (n + 1) es) ≡ indexed (take n es) ++ entry_of e ∷ []
indexed_more es n e h = ap indexed (take_one es n e h) ∙ map-append entry_of (take n es) (e ∷ [])

pub row_within : (es : Entries) (n : ℕ) (e : List ℕ × Entry) → slice_get es n ≡ Some e → n < length es
row_within [] n e h = absurd cc
row_within (d ∷ es) zero e h = omega arith
row_within (d ∷ es) (suc n) e h = let k = row_within es n e h in omega (arith, k)

all_of : (es : Entries) (n : ℕ) → length es ≤ n → take n es ≡ es
all_of [] zero h = refl
all_of [] (suc n) h = refl
all_of (e ∷ es) zero h = absurd (omega arith)
all_of (e ∷ es) (suc n) h = ap (λ (m : Entries). e ∷ m) (all_of es n (omega arith))
